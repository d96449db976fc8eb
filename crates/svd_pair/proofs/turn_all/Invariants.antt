-- `svd_pair::turn_all` meets its contract. The loop's invariant: the list is that with the rows below r turned. Assumes nothing.
use mathlib.Core.Path.{◌≡◌}
use mathlib.Core.Bool.{not}
use lib.Dec.{eqb}
use Prim.Native.Nat.{◌≤◌, ◌-◌}
use lib.ListN.{length}
use Rattle.svd_pair.specs.Turns.{turn_rows}
use Rattle.svd_pair.specs.Plain.{making}
use Rattle.svd_pair.proofs.turn_all.Given as goal

abbrev pub invariant-loop-r : goal.invariant-loop-r
invariant-loop-r g l =
    (l.r ≤ l.m) × (length l.xs ≡ length l.initial.xs) × (l.xs ≡ turn_rows (making (not (eqb g.row.PLAIN 0))) l.f l.c l.a l.b l.r l.initial.xs)

abbrev pub decreases-loop-r : goal.decreases-loop-r
decreases-loop-r g l = l.m - l.r
