-- `countersign_shifted::product` meets its contract: the product is from -2^36 to 2^36. Assumes nothing.
use native.Mathlib.Omega.{arith}
use Rattle.countersign_shifted.proofs.ShiftedLaws.{product-least, product-most}
use Rattle.countersign_shifted.proofs.product.Goals as goal

pub overflow_sub-result : goal.overflow_sub-result
overflow_sub-result c = product-least _ _ c.requires.0 c.requires.1

pub returns : goal.returns
returns c = (omega (arith, product-least _ _ c.requires.0 c.requires.1), omega (arith, product-most _ _ c.requires.0 c.requires.1))
