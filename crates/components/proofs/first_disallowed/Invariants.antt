-- `components::first_disallowed` meets its contract. The loop's invariant: the answer is that of the numbers that are left.
-- Assumes nothing.
use mathlib.Core.Path.{◌≡◌}
use lib.ListN.{drop}
use Rattle.complex.specs.Cells.{components}
use Rattle.components.proofs.first_disallowed.Given as goal

abbrev pub invariant-loop-i : goal.invariant-loop-i
invariant-loop-i l = components 0 l.s ≡ components l.i (drop l.i l.s)
