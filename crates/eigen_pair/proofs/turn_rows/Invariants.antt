-- `eigen_pair::turn_rows` meets its contract. The loop's invariant: the first k columns of the rows are turned. Assumes nothing.
use mathlib.Core.Path.{◌≡◌}
use Prim.Native.Nat.{◌*◌, ◌-◌, ◌≤◌}
use lib.ListN.{length}
use Rattle.eigen_pair.specs.CellPlanes.{as_planes}
use Rattle.eigen_pair.specs.Turn.{turn_line}
use Rattle.eigen_pair.proofs.turn_rows.Given as goal

abbrev pub invariant-loop-k : goal.invariant-loop-k
invariant-loop-k l = (l.k ≤ l.n) × (length l.xs ≡ length l.initial.xs) × (l.c ≡ l.n * l.n) × (as_planes (l.n * l.n) l.xs ≡ turn_line l.w (l.n * l.n) 1 l.i l.j l.k (as_planes (l.n * l.n) l.initial.xs))

abbrev pub decreases-loop-k : goal.decreases-loop-k
decreases-loop-k l = l.n - l.k
