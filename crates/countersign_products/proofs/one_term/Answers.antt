-- `countersign_products::one_term` meets its contract: each factor is bounded, so no product wraps. Assumes nothing.
use Rattle.countersign_products.proofs.Bounds.{made-term}
use Rattle.countersign_products.proofs.one_term.Goals as goal

pub returns : goal.returns
returns c = made-term _ _ _ _ _ _ _ _ c.scaled_cell-left.ensures c.cell_of.ensures c.times.ensures
