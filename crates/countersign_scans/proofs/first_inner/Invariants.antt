-- `countersign_scans::first_inner` meets its contract: the loop's invariant: the cells that are left give the same
-- end. Assumes nothing.
use mathlib.Core.Path.{◌≡◌}
use Prim.Native.Nat.{◌-◌, ◌*◌}
use Rattle.countersign_grams.specs.Grams.{gram_fits}
use Rattle.countersign_scans.specs.Scans.{first_fail}
use Rattle.countersign_scans.proofs.first_inner.Given as goal

abbrev pub invariant-loop-c : goal.invariant-loop-c
invariant-loop-c l = first_fail (gram_fits l.x l.len l.k l.tolerance) 0 (l.k * l.k) ≡ first_fail (gram_fits l.x l.len l.k l.tolerance) l.c (l.k * l.k - l.c)
