use mathlib.Core.Path.{sym}
use Rattle.values.proofs.Finite.{finite-more, finite-end, finite-of-each}
use Rattle.values.proofs.all_finite.Goals as goal

pub returns-then-scaled_sum_finite : goal.returns-then-scaled_sum_finite
returns-then-scaled_sum_finite c = sym (finite-of-each _ (c.scaled_sum_finite.ensures c.if-scaled_sum_finite.true))

pub loop-x-preserved : goal.loop-x-preserved
loop-x-preserved c = finite-more _ _ c.loop-x.every c.loop-x-test.true c.loop-x.invariant c.is_finite-one.ensures

pub returns : goal.returns
returns c = finite-end _ _ c.loop-x.every c.loop-x-test.false c.loop-x.invariant
