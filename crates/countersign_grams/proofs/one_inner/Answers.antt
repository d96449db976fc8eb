-- `countersign_grams::one_inner` meets its contract: both cells are bounded, so their product does not wrap. Assumes
-- nothing.
use Rattle.countersign_grams.proofs.Bounds.{inner-fits, made-inner}
use Rattle.countersign_grams.proofs.one_inner.Goals as goal

pub times-requires : goal.times-requires
times-requires c = inner-fits _ _ _ c.cell_of-first.ensures c.cell_of-second.ensures c.conj.ensures

pub returns : goal.returns
returns c = made-inner _ _ _ _ _ c.cell_of-first.ensures c.cell_of-second.ensures c.conj.ensures c.times.ensures
