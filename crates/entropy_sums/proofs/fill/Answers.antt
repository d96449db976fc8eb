use Rattle.entropy_sums.proofs.FillLaws.{filling-fits, filling-more, filling-end}
use Rattle.entropy_sums.proofs.fill.Goals as goal

pub with_weight-s-requires : goal.with_weight-s-requires
with_weight-s-requires c = filling-fits _ _ _ c.requires _ _ _ _ c.loop-x.invariant c.loop-x-test.true c.weight.ensures

pub loop-x-preserved : goal.loop-x-preserved
loop-x-preserved c = filling-more _ _ _ c.requires _ _ _ _ c.loop-x.invariant c.loop-x-test.true c.weight.ensures _ _ c.with_weight-s.ensures.bands c.with_weight-s.ensures.sums

pub returns : goal.returns
returns c = filling-end _ _ _ c.requires _ _ _ c.loop-x.invariant c.loop-x-test.false
