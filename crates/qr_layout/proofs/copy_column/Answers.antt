use native.Mathlib.Omega.{arith}
use Rattle.qr_column.proofs.ColumnLaws.{column-cell}
use Rattle.qr_column.proofs.WovenLaws.{fill-begin, fill_step, column-end}
use Rattle.qr_layout.proofs.copy_column.Goals as goal

pub loop-t-init : goal.loop-t-init
loop-t-init c = fill-begin _ _ _

pub read_cell-requires : goal.read_cell-requires
read_cell-requires c = omega (arith, c.loop-t-test.true, c.requires)

pub write_plane-requires : goal.write_plane-requires
write_plane-requires c = omega (arith, c.loop-t-test.true, c.loop-t.invariant.size, c.requires)

pub overflow_step-t : goal.overflow_step-t
overflow_step-t c = omega (arith, c.loop-t-test.true)

pub loop-t-smaller : goal.loop-t-smaller
loop-t-smaller c = omega (arith, c.loop-t-test.true)

pub loop-t-preserved : goal.loop-t-preserved
loop-t-preserved c = fill_step _ _ _ _ c.loop-t.invariant c.requires.1 c.loop-t-test.true (column-cell _ _ _ c.read_cell.ensures) c.write_plane.ensures

pub shape_of-v : goal.shape_of-v
shape_of-v c = c.loop-t.invariant.size

pub returns : goal.returns
returns c = column-end _ _ _ _ _ c.loop-t.invariant c.loop-t-test.false
