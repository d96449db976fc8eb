use Rattle.countersign_grams.proofs.Bounds.{inners-none, inners-more}
use Rattle.countersign_grams.proofs.inners.Goals as goal

pub loop-i-init : goal.loop-i-init
loop-i-init c = inners-none _ _ _ _

pub loop-i-preserved : goal.loop-i-preserved
loop-i-preserved c = inners-more _ _ _ _ _ c.loop-i.invariant c.one_inner.ensures c.plus-sum.ensures
