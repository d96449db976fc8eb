-- `qr_passes::orthogonalize` meets its contract. The loop's invariant: the passes that are left give the same end. Assumes nothing.
use mathlib.Core.Path.{◌≡◌}
use Prim.Native.Nat.{◌-◌, ◌≤◌}
use lib.ListN.{length}
use Rattle.qr_basis.specs.Matrix.{matrix_of}
use Rattle.qr_column.specs.Woven.{woven}
use Rattle.qr_passes.specs.GramSchmidt.{held, passes}
use Rattle.qr_passes.proofs.orthogonalize.Given as goal

abbrev pub invariant-loop-k : goal.invariant-loop-k
invariant-loop-k l = (l.k ≤ 3) × (length l.v ≡ length l.initial.v) × (length l.r ≡ length l.initial.r) × (passes (matrix_of l.rows l.q) l.rank l.rows l.cols l.j (3 - l.k) l.previous (held (woven l.rows l.v) l.r) ≡ passes (matrix_of l.rows l.q) l.rank l.rows l.cols l.j 3 l.norm (held (woven l.rows l.initial.v) l.initial.r))

abbrev pub decreases-loop-k : goal.decreases-loop-k
decreases-loop-k l = 3 - l.k
