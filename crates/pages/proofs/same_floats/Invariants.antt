-- `pages::same_floats` meets its contract. The loop's invariant: the lists have the same length, and what is left of them decides.
-- Assumes nothing.
use mathlib.Core.Path.{◌≡◌}
use lib.ListN.{length, drop}
use Rattle.pages.specs.Agree.{same_floats}
use Rattle.pages.proofs.same_floats.Given as goal

abbrev pub invariant-loop-i : goal.invariant-loop-i
invariant-loop-i l = (length l.a ≡ length l.b) × (same_floats l.a l.b ≡ same_floats (drop l.i l.a) (drop l.i l.b))
