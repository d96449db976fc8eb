-- `countersign_scans::first_value` meets its contract: the loop's invariant: the values that are left give the same
-- end. Assumes nothing.
use mathlib.Core.Path.{◌≡◌}
use Prim.Native.Nat.{◌-◌}
use lib.ListN.{length}
use Rattle.countersign_scans.specs.Scans.{first_fail, value_fits}
use Rattle.countersign_scans.proofs.first_value.Given as goal

abbrev pub invariant-loop-i : goal.invariant-loop-i
invariant-loop-i l = first_fail (value_fits l.s) 0 (length l.s) ≡ first_fail (value_fits l.s) l.i (length l.s - l.i)
