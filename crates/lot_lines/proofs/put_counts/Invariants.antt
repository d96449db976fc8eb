-- `lot_lines::put_counts` meets its contract. Assumes nothing.
use Rattle.lot_lines.specs.SheetLines.{count_lines}
use Rattle.texts.specs.Text.{Puts}
use Rattle.lot_lines.proofs.put_counts.Given as goal

abbrev pub invariant-loop-i : goal.invariant-loop-i
invariant-loop-i l = Puts l.at (count_lines l.word l.first l.i l.counts) l.initial.out l.next l.out
