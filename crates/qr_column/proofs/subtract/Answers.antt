use native.Mathlib.Omega.{arith}
use Rattle.qr_column.proofs.WovenLaws.{fill-begin, fill_step, less-cell, less-end}
use Rattle.qr_column.proofs.subtract.Goals as goal

pub loop-t-init : goal.loop-t-init
loop-t-init c = fill-begin _ _ _

pub read_plane-x-requires : goal.read_plane-x-requires
read_plane-x-requires c = omega (arith, c.loop-t-test.true, c.loop-t.invariant.size, c.requires)

pub read_cell-requires : goal.read_cell-requires
read_cell-requires c = omega (arith, c.loop-t-test.true, c.requires)

pub write_plane-requires : goal.write_plane-requires
write_plane-requires c = omega (arith, c.loop-t-test.true, c.loop-t.invariant.size, c.requires)

pub overflow_step-t : goal.overflow_step-t
overflow_step-t c = omega (arith, c.loop-t-test.true)

pub loop-t-smaller : goal.loop-t-smaller
loop-t-smaller c = omega (arith, c.loop-t-test.true)

pub loop-t-preserved : goal.loop-t-preserved
loop-t-preserved c = fill_step _ _ _ _ c.loop-t.invariant c.requires.1 c.loop-t-test.true (less-cell _ _ _ _ _ _ c.loop-t.invariant c.loop-t-test.true c.read_plane-x.ensures c.read_cell.ensures c.mul-part.ensures c.sub.ensures) c.write_plane.ensures

pub shape_of-v : goal.shape_of-v
shape_of-v c = c.loop-t.invariant.size

pub returns : goal.returns
returns c = less-end _ _ _ _ _ _ c.loop-t.invariant c.loop-t-test.false
