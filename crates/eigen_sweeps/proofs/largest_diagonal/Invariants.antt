-- `eigen_sweeps::largest_diagonal` meets its contract. The loop's invariant: the largest of the first i entries. Assumes nothing.
use mathlib.Core.Path.{◌≡◌}
use Prim.Native.Nat.{◌*◌, ◌-◌, ◌≤◌}
use Rattle.eigen_pair.specs.CellPlanes.{as_planes}
use Rattle.eigen_sweeps.specs.Sweeping.{largest_to}
use Rattle.eigen_sweeps.proofs.largest_diagonal.Given as goal

abbrev pub invariant-loop-i : goal.invariant-loop-i
invariant-loop-i l = (l.i ≤ l.n) × (l.largest ≡ largest_to (as_planes (l.n * l.n) l.xs) l.n l.i)

abbrev pub decreases-loop-i : goal.decreases-loop-i
decreases-loop-i l = l.n - l.i
