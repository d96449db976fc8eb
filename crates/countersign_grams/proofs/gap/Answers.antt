-- `countersign_grams::gap` meets its contract: both vectors are among the k. Assumes nothing.
use Rattle.countersign_grams.proofs.Bounds.{gap-fits, made-gap}
use Rattle.countersign_grams.proofs.gap.Goals as goal

pub minus-requires : goal.minus-requires
minus-requires c = gap-fits _ _ _ _ c.inners-sum.ensures c.identity.ensures

pub returns : goal.returns
returns c = made-gap _ _ _ _ c.inners-sum.ensures c.identity.ensures c.minus.ensures
