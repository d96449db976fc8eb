-- `lines::put_values` meets its contract. The loop's invariant: the lines of the values before this one are put.
-- Assumes nothing.
use Rattle.texts.specs.Text.{Puts}
use Rattle.lines.specs.Lines.{value_lines}
use Rattle.lines.proofs.put_values.Given as goal

abbrev pub invariant-loop-rank : goal.invariant-loop-rank
invariant-loop-rank l = Puts l.at (value_lines l.rank l.values) l.initial.out l.next l.out
