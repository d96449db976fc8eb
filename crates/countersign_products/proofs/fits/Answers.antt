-- `countersign_products::fits` meets its contract: the gap's two parts decide. Assumes nothing.
use Rattle.countersign_products.proofs.Bounds.{made-fits}
use Rattle.countersign_products.proofs.fits.Goals as goal

pub returns : goal.returns
returns c = made-fits _ _ _ _ _ _ _ _ _ c.gap.ensures c.within.ensures
