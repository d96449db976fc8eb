-- `eigen_sweeps::sweep` meets its contract. The loop's invariant: the rows below p are done. Assumes nothing.
use mathlib.Core.Path.{◌≡◌}
use Prim.Native.Nat.{◌+◌, ◌-◌, ◌*◌, ◌≤◌}
use lib.ListN.{length}
use Rattle.eigen_pair.specs.CellPlanes.{as_planes}
use Rattle.sweeps.specs.Sweeping.{columns_to}
use Rattle.sweeps.proofs.Counts.{pairs_below}
use Rattle.eigen_sweeps.specs.Sweeping.{eigen_state, eigen_pairing}
use Rattle.eigen_sweeps.proofs.sweep.Given as goal

abbrev pub invariant-loop-p : goal.invariant-loop-p
invariant-loop-p l = (l.p ≤ l.n) × (length l.xs ≡ length l.initial.xs) × (l.t.turned ≤ l.initial.t.turned + pairs_below l.n l.p) × (l.t.begun ≡ l.initial.t.begun) × (eigen_state (as_planes (l.n * l.n) l.xs) l.t ≡ columns_to (eigen_pairing l.n l.largest) l.n l.p (eigen_state (as_planes (l.n * l.n) l.initial.xs) l.initial.t))

abbrev pub decreases-loop-p : goal.decreases-loop-p
decreases-loop-p l = l.n - l.p
