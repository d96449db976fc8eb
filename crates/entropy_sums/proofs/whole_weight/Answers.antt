use native.Mathlib.Omega.{arith}
use Rattle.entropy_sums.proofs.SumLaws.{summed-fits, summed-more, summed-end}
use Rattle.entropy_sums.proofs.whole_weight.Goals as goal

pub overflow_add-sum : goal.overflow_add-sum
overflow_add-sum c = omega (arith, summed-fits _ _ _ _ c.loop-x.invariant c.loop-x-test.true c.weight-sum.ensures c.requires)

pub loop-x-preserved : goal.loop-x-preserved
loop-x-preserved c = summed-more _ _ _ _ c.loop-x.invariant c.loop-x-test.true c.weight-sum.ensures

pub returns : goal.returns
returns c = summed-end _ _ _ c.loop-x.invariant c.loop-x-test.false
