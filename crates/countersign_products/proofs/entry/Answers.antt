use Rattle.countersign_products.proofs.Bounds.{terms-none, terms-more}
use Rattle.countersign_products.proofs.entry.Goals as goal

pub loop-t-init : goal.loop-t-init
loop-t-init c = terms-none _ _ _ _ _ _ _

pub loop-t-preserved : goal.loop-t-preserved
loop-t-preserved c = terms-more _ _ _ _ _ _ _ _ c.loop-t.invariant c.one_term.ensures c.plus-sum.ensures
