-- `hermitian_eigen::load_shifted` meets its contract. The invariant: the first col columns are the shifted matrix's. Assumes nothing.
use mathlib.Core.Path.{◌≡◌}
use Prim.Native.Nat.{◌*◌, ◌-◌, ◌≤◌}
use lib.ListN.{length}
use Rattle.svd_load.specs.Loading.{planes_to}
use Rattle.hermitian_eigen.specs.Shifted.{shifted_at}
use Rattle.hermitian_eigen.proofs.load_shifted.Given as goal

abbrev pub invariant-loop-col : goal.invariant-loop-col
invariant-loop-col l = (l.col ≤ l.dim) × (length l.work ≡ length l.initial.work) × (l.work ≡ planes_to (l.dim * l.dim) (shifted_at l.shift l.matrix l.dim) 0 (l.col * l.dim) l.initial.work)

abbrev pub decreases-loop-col : goal.decreases-loop-col
decreases-loop-col l = l.dim - l.col
