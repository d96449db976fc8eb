-- `chain_lines::put_cells` meets its contract. The loop's invariant: the lines of the first k cells are put. Assumes nothing.
use Rattle.texts.specs.Text.{Puts}
use Rattle.chain_lines.specs.ChainLines.{site_cell_lines}
use Rattle.chain_lines.proofs.put_cells.Given as goal

abbrev pub invariant-loop-k : goal.invariant-loop-k
invariant-loop-k l = Puts l.at (site_cell_lines l.sites l.from l.k) l.initial.out l.next l.out
