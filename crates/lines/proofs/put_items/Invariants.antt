-- `lines::put_items` meets its contract. The loop's invariant: the numbers before this one are put.
-- Assumes nothing.
use Rattle.texts.specs.Text.{Puts}
use Rattle.lines.specs.Lines.{items}
use Rattle.lines.proofs.put_items.Given as goal

abbrev pub invariant-loop-n : goal.invariant-loop-n
invariant-loop-n l = Puts l.at (items l.n-index l.list) l.initial.out l.next l.out
