use mathlib.Core.Path.{refl}
use native.Mathlib.Omega.{arith}
use Rattle.complex.proofs.Loops.{stop}
use Rattle.qr_passes.specs.GramSchmidt.{pass_to}
use Rattle.qr_passes.proofs.GramSchmidtLaws.{pass-none, pass-more}
use Rattle.whole_numbers.proofs.WholeLaws.{column_fits}
use borrow.Author.Rules.{rules}
use Rattle.qr_passes.proofs.pass.Goals as goal

pub loop-i-init : goal.loop-i-init
loop-i-init c = (search rules, refl, refl, pass-none _ _ _ _ _)

pub overflow_mul-i : goal.overflow_mul-i
overflow_mul-i c = omega (arith, column_fits c.loop-i.i c.args.rank c.args.cols c.loop-i-test.true)

pub overflow_add-i : goal.overflow_add-i
overflow_add-i c = omega (arith, column_fits c.loop-i.i c.args.rank c.args.cols c.loop-i-test.true)

pub project-left-requires : goal.project-left-requires
project-left-requires c = omega (arith, column_fits c.loop-i.i c.args.rank c.args.rows c.loop-i-test.true, column_fits c.loop-i.i c.args.rank c.args.cols c.loop-i-test.true)

pub loop-i-preserved : goal.loop-i-preserved
loop-i-preserved c = (search rules, search rules, search rules, pass-more _ _ _ _ _ _ c.loop-i.invariant.3 c.project-left.ensures)

pub shape_of-v : goal.shape_of-v
shape_of-v c = c.loop-i.invariant.1

pub shape_of-r : goal.shape_of-r
shape_of-r c = c.loop-i.invariant.2

pub returns : goal.returns
returns c = stop (pass_to _ _ _ _ _) c.loop-i.invariant.3 (search rules) (search rules)
