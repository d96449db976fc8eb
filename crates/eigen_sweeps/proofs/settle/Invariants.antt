-- `eigen_sweeps::settle` meets its contract. The loop's invariant: the sweeps that are left lead to the same end. Assumes nothing.
use mathlib.Core.Path.{◌≡◌}
use Prim.Native.Nat.{◌-◌, ◌*◌, ◌≤◌}
use lib.ListN.{length}
use Rattle.eigen_pair.specs.CellPlanes.{as_planes}
use Rattle.sweeps.specs.Sweeping.{sweeps_to}
use Rattle.eigen_sweeps.specs.Sweeping.{eigen_state, eigen_pairings, eigen_settled}
use Rattle.eigen_sweeps.proofs.settle.Given as goal

abbrev pub invariant-loop-k : goal.invariant-loop-k
invariant-loop-k l = (l.k ≤ 60) × (length l.xs ≡ length l.initial.xs) × (l.s.begun ≤ l.k) × (l.s.turned ≤ l.k * 4096) × (sweeps_to (eigen_pairings l.n) l.n (60 - l.k) (eigen_state (as_planes (l.n * l.n) l.xs) l.s) ≡ eigen_settled l.n (as_planes (l.n * l.n) l.initial.xs))

abbrev pub decreases-loop-k : goal.decreases-loop-k
decreases-loop-k l = 60 - l.k
