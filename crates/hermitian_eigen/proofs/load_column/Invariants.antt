-- `hermitian_eigen::load_column` meets its contract. The invariant: the first r cells of the column are the shifted matrix's. Assumes nothing.
use mathlib.Core.Path.{◌≡◌}
use Prim.Native.Nat.{◌*◌, ◌-◌, ◌≤◌}
use lib.ListN.{length}
use Rattle.svd_load.specs.Loading.{planes_to}
use Rattle.hermitian_eigen.specs.Shifted.{shifted_at}
use Rattle.hermitian_eigen.proofs.load_column.Given as goal

abbrev pub invariant-loop-r : goal.invariant-loop-r
invariant-loop-r l = (l.r ≤ l.dim) × (length l.work ≡ length l.initial.work) × (l.work ≡ planes_to (l.dim * l.dim) (shifted_at l.shift l.matrix l.dim) (l.col * l.dim) l.r l.initial.work)

abbrev pub decreases-loop-r : goal.decreases-loop-r
decreases-loop-r l = l.dim - l.r
