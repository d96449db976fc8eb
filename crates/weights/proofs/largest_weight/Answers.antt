use mathlib.Core.Path.{sym, ◌∙◌}
use Rattle.weights.proofs.WeightLaws.{largest-end, largest-more}
use Rattle.weights.proofs.largest_weight.Goals as goal

pub loop-x-preserved : goal.loop-x-preserved
loop-x-preserved c = c.loop-x.invariant ∙ largest-more _ _ _ c.loop-x-test.true c.larger_of-largest.ensures

pub returns : goal.returns
returns c = sym (c.loop-x.invariant ∙ largest-end _ _ _ c.loop-x-test.false)
