-- `countersign_products::gap` meets its contract: the cell is in the block of its column. Assumes nothing.
use Rattle.countersign_products.proofs.Bounds.{one-fits, gap-fits, made-gap}
use Rattle.countersign_products.proofs.gap.Goals as goal

pub by-requires : goal.by-requires
by-requires c = one-fits _ _ c.cell_at.ensures

pub minus-requires : goal.minus-requires
minus-requires c = gap-fits _ _ _ _ _ _ _ _ c.entry-sum.ensures c.cell_at.ensures c.by.ensures

pub returns : goal.returns
returns c = made-gap _ _ _ _ _ _ _ _ c.entry-sum.ensures c.cell_at.ensures c.by.ensures c.minus.ensures
