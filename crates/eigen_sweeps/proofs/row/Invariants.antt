-- `eigen_sweeps::row` meets its contract. The loop's invariant: the pairs of p below q are done. Assumes nothing.
use mathlib.Core.Path.{◌≡◌}
use Prim.Native.Nat.{◌+◌, ◌-◌, ◌*◌, ◌≤◌, ◌<◌}
use lib.ListN.{length}
use Rattle.eigen_pair.specs.CellPlanes.{as_planes}
use Rattle.sweeps.specs.Sweeping.{pairs_to}
use Rattle.eigen_sweeps.specs.Sweeping.{eigen_state, eigen_pairing}
use Rattle.eigen_sweeps.proofs.row.Given as goal

abbrev pub invariant-loop-q : goal.invariant-loop-q
invariant-loop-q l = (l.p < l.q) × (l.q ≤ l.n) × (length l.xs ≡ length l.initial.xs) × (l.t.turned + (l.p + 1) ≤ l.initial.t.turned + l.q) × (l.t.begun ≡ l.initial.t.begun) × (eigen_state (as_planes (l.n * l.n) l.xs) l.t ≡ pairs_to (eigen_pairing l.n l.largest) l.p (l.q - (l.p + 1)) (eigen_state (as_planes (l.n * l.n) l.initial.xs) l.initial.t))

abbrev pub decreases-loop-q : goal.decreases-loop-q
decreases-loop-q l = l.n - l.q
