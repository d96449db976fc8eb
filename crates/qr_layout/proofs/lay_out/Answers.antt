use mathlib.Core.Path.{refl, ◌∙◌}
use native.Mathlib.Omega.{arith}
use Rattle.complex.proofs.Loops.{stop}
use Rattle.whole_numbers.proofs.WholeLaws.{column_fits}
use Rattle.qr_layout.proofs.LayingLaws.{laid_out, laid_none, laid_more, laid-all}
use Rattle.qr_layout.proofs.lay_out.Goals as goal

pub loop-i-init : goal.loop-i-init
loop-i-init c = (omega arith, refl, refl, laid_none _ _)

pub copy_column-requires : goal.copy_column-requires
copy_column-requires c = omega (arith, column_fits c.loop-i.i c.args.cap c.args.rows c.loop-i-test.true, c.loop-i.invariant.1, c.loop-i.invariant.2, c.requires)

pub overflow_mul-i : goal.overflow_mul-i
overflow_mul-i c = omega (arith, column_fits c.loop-i.i c.args.cap c.args.rows c.loop-i-test.true, c.loop-i.invariant.1, c.requires)

pub place_column-requires : goal.place_column-requires
place_column-requires c = omega (arith, column_fits c.loop-i.i c.args.cap c.args.rows c.loop-i-test.true, c.loop-i.invariant.1, c.loop-i.invariant.2, c.copy_column.auto.v, c.requires)

pub overflow_step-i : goal.overflow_step-i
overflow_step-i c = omega (arith, c.loop-i-test.true)

pub loop-i-smaller : goal.loop-i-smaller
loop-i-smaller c = omega (arith, c.loop-i-test.true)

pub loop-i-preserved : goal.loop-i-preserved
loop-i-preserved c = (omega (arith, c.loop-i-test.true), c.place_column.auto.q ∙ c.loop-i.invariant.1, c.copy_column.auto.v ∙ c.loop-i.invariant.2, laid_more _ _ _ (omega (arith, column_fits c.loop-i.i c.args.cap c.args.rows c.loop-i-test.true, c.requires)) c.loop-i.invariant.1 c.loop-i.invariant.3 c.copy_column.ensures c.place_column.ensures)

pub shape_of-q : goal.shape_of-q
shape_of-q c = c.loop-i.invariant.1

pub shape_of-v : goal.shape_of-v
shape_of-v c = c.loop-i.invariant.2

pub returns : goal.returns
returns c = stop (laid_out _ _) c.loop-i.invariant.3 c.loop-i.invariant.0 c.loop-i-test.false ∙ laid-all _ _ _ c.requires.0
