use mathlib.Core.Path.{refl}
use native.Mathlib.Omega.{arith}
use Rattle.complex.proofs.Loops.{stop}
use Rattle.whole_numbers.proofs.WholeLaws.{column_fits}
use Rattle.svd_load.specs.Loading.{unit_to}
use Rattle.svd_load.proofs.LoadingLaws.{unit-none, unit-more, unit-all}
use borrow.Author.Rules.{rules}
use Rattle.svd_load.proofs.unit.Goals as goal

pub loop-k-init : goal.loop-k-init
loop-k-init c = unit-none _ _

pub overflow_mul-at : goal.overflow_mul-at
overflow_mul-at c = omega (arith, column_fits c.loop-k.k c.args.n c.args.n c.loop-k-test.true)

pub overflow_add-at : goal.overflow_add-at
overflow_add-at c = omega (arith, column_fits c.loop-k.k c.args.n c.args.n c.loop-k-test.true)

pub offset_bounds-v-at : goal.offset_bounds-v-at
offset_bounds-v-at c = omega (arith, column_fits c.loop-k.k c.args.n c.args.n c.loop-k-test.true)

pub bounds-v-at : goal.bounds-v-at
bounds-v-at c = omega (arith, column_fits c.loop-k.k c.args.n c.args.n c.loop-k-test.true)

pub loop-k-preserved : goal.loop-k-preserved
loop-k-preserved c = unit-more _ _ _ c.loop-k.invariant

pub returns : goal.returns
returns c = unit-all _ c.args.v.now c.requires refl c.zero_first.ensures (stop (unit_to _ _) c.loop-k.invariant (search rules) (search rules))
