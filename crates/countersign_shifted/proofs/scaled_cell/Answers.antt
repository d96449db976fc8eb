-- `countersign_shifted::scaled_cell` meets its contract: each part is a product of two numbers that stand in the lists.
-- Assumes nothing.
use native.Mathlib.Omega.{arith}
use Rattle.countersign_shifted.proofs.ShiftedLaws.{read_small, made-scaled}
use Rattle.countersign_shifted.proofs.scaled_cell.Goals as goal

pub product-re-requires : goal.product-re-requires
product-re-requires c = (read_small _ _ c.requires.0 _ (omega (arith, c.requires.2)) c.from.ensures, read_small _ _ c.requires.1 _ c.requires.3 c.from-by.ensures)

pub product-im-requires : goal.product-im-requires
product-im-requires c = (read_small _ _ c.requires.0 _ c.requires.2 c.from-2.ensures, read_small _ _ c.requires.1 _ c.requires.3 c.from-by.ensures)

pub returns : goal.returns
returns c = made-scaled _ _ c.requires.0 _ _ c.requires.1 _ _ c.requires.2 c.requires.3 c.from.ensures c.from-2.ensures c.from-by.ensures c.product-re.ensures c.product-im.ensures
