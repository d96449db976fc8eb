-- `qr_layout::copy_column` meets its contract. The loop's invariant: the first t cells of v are written. Assumes nothing.
use Prim.Native.Nat.{◌-◌, ◌*◌}
use Rattle.qr_basis.specs.Matrix.{matrix_of}
use Rattle.qr_column.specs.Columns.{cell_from}
use Rattle.qr_column.proofs.WovenLaws.{Filled}
use Rattle.qr_layout.proofs.copy_column.Given as goal

abbrev pub invariant-loop-t : goal.invariant-loop-t
invariant-loop-t l = Filled (cell_from (matrix_of l.rows l.q) (l.i * l.rows)) l.rows l.initial.v l.v l.t

abbrev pub decreases-loop-t : goal.decreases-loop-t
decreases-loop-t l = l.rows - l.t
