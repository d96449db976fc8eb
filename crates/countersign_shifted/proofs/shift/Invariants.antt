-- `countersign_shifted::shift` meets its contract. The loop's invariant: the first i numbers are the list's, the others as
-- they were. Assumes nothing.
use mathlib.Core.Path.{◌≡◌}
use Rattle.countersign_shifted.specs.Shifted.{shifted_at}
use Rattle.tables.specs.Tables.{filled}
use Rattle.countersign_shifted.proofs.shift.Given as goal

abbrev pub invariant-loop-i : goal.invariant-loop-i
invariant-loop-i l = l.out ≡ filled l.i (shifted_at l.s) l.initial.out
