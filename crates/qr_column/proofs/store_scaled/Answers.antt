use mathlib.Core.Path.{refl}
use native.Mathlib.Omega.{arith}
use Rattle.complex.proofs.Loops.{stop}
use Rattle.qr_column.specs.Columns.{scaled_into}
use Rattle.qr_column.proofs.ColumnLaws.{scaled-none}
use Rattle.qr_column.proofs.WovenLaws.{scaled-woven}
use borrow.Author.Rules.{rules}
use Rattle.qr_column.proofs.store_scaled.Goals as goal

pub loop-t-init : goal.loop-t-init
loop-t-init c = (omega arith, refl, scaled-none _ _ _ _)

pub read_plane-requires : goal.read_plane-requires
read_plane-requires c = omega (arith, c.loop-t-test.true, c.requires)

pub write_cell-requires : goal.write_cell-requires
write_cell-requires c = omega (arith, c.loop-t-test.true, c.loop-t.invariant.1, c.requires)

pub overflow_step-t : goal.overflow_step-t
overflow_step-t c = omega (arith, c.loop-t-test.true)

pub loop-t-smaller : goal.loop-t-smaller
loop-t-smaller c = omega (arith, c.loop-t-test.true)

pub loop-t-preserved : goal.loop-t-preserved
loop-t-preserved c = (omega (arith, c.loop-t-test.true), search rules, scaled-woven _ _ _ _ _ _ c.loop-t-test.true c.loop-t.invariant.2 c.read_plane.ensures c.scale.ensures c.write_cell.ensures)

pub shape_of-q : goal.shape_of-q
shape_of-q c = c.loop-t.invariant.1

pub returns : goal.returns
returns c = stop (scaled_into _ _ _ _) c.loop-t.invariant.2 c.loop-t.invariant.0 c.loop-t-test.false
