-- `page_cells::put_cells` meets its contract. The loop's invariant: the lines of the first k cells are put.
-- Assumes nothing.
use Rattle.texts.specs.Text.{Puts}
use Rattle.page_cells.specs.PageCells.{cell_lines}
use Rattle.page_cells.proofs.put_cells.Given as goal

abbrev pub invariant-loop-k : goal.invariant-loop-k
invariant-loop-k l = Puts l.at (cell_lines l.word l.dim l.k l.cells) l.initial.out l.next l.out
