-- `qr_column::subtract` meets its contract. The loop's invariant: the first t cells of v are lessened, and the others are as they came. Assumes nothing.
use Prim.Native.Nat.{◌-◌, ◌*◌}
use Rattle.qr_basis.specs.Matrix.{matrix_of}
use Rattle.qr_column.specs.Columns.{less_cell}
use Rattle.qr_column.specs.Woven.{woven}
use Rattle.qr_column.proofs.WovenLaws.{Filled}
use Rattle.qr_column.proofs.subtract.Given as goal

abbrev pub invariant-loop-t : goal.invariant-loop-t
invariant-loop-t l = Filled (less_cell (woven l.rows l.initial.v) (matrix_of l.rows l.q) (l.i * l.rows) l.d) l.rows l.initial.v l.v l.t

abbrev pub decreases-loop-t : goal.decreases-loop-t
decreases-loop-t l = l.rows - l.t
