-- `weights::roots_above` meets its contract. The loop's invariant: the roots that stand there and those that are left are all of them. Assumes nothing.
use mathlib.Core.Path.{◌≡◌}
use mathlib.Core.List.{◌++◌}
use Prim.Native.Nat.{◌≤◌}
use lib.ListN.{take, drop}
use Rattle.weights.specs.Weights.{roots_above}
use Rattle.weights.proofs.roots_above.Given as goal

abbrev pub invariant-loop-w : goal.invariant-loop-w
invariant-loop-w l = (l.count ≤ l.w-index) × (take l.count l.roots ++ roots_above l.floor (drop l.w-index l.s) ≡ roots_above l.floor l.s)
