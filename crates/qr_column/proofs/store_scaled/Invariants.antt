-- `qr_column::store_scaled` meets its contract. The loop's invariant: the first t cells of the column are stored. Assumes nothing.
use Prim.Native.Nat.{◌-◌, ◌*◌, ◌≤◌}
use mathlib.Core.Path.{◌≡◌}
use Rattle.qr_basis.specs.Matrix.{matrix_of}
use lib.ListN.{length}
use Rattle.qr_column.specs.Columns.{scaled_into}
use Rattle.qr_column.specs.Woven.{woven}
use Rattle.qr_column.proofs.store_scaled.Given as goal

abbrev pub invariant-loop-t : goal.invariant-loop-t
invariant-loop-t l = (l.t ≤ l.rows) × (length l.q ≡ length l.initial.q) × (matrix_of l.rows l.q ≡ scaled_into (woven l.rows l.v) l.k (matrix_of l.rows l.initial.q) (l.i * l.rows) l.t)

abbrev pub decreases-loop-t : goal.decreases-loop-t
decreases-loop-t l = l.rows - l.t
