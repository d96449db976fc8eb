-- `countersign_grams::fits` meets its contract: the tolerance divided by 2^18 is the same test. Assumes nothing.
use Rattle.countersign_grams.proofs.Bounds.{made-fits}
use Rattle.countersign_grams.proofs.fits.Goals as goal

pub returns : goal.returns
returns c = made-fits _ _ _ _ _ c.gap.ensures c.within.ensures
