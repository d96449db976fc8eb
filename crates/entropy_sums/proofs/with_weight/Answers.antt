-- `entropy_sums::with_weight` meets its contract: a zero is dropped, any other weight is put behind the last. Assumes nothing.
use native.Mathlib.Omega.{arith}
use Rattle.entropy_sums.proofs.FillLaws.{product-low, product_high}
use Rattle.entropy_sums.proofs.with_weight.Goals as goal

pub overflow_mul-result : goal.overflow_mul-result
overflow_mul-result c = omega (arith, product-low _ _ _ _ _ c.requires c.if-w-eq0.false c.band_in-b.ensures)

pub overflow_add-result-2 : goal.overflow_add-result-2
overflow_add-result-2 c = omega (arith, c.requires.low_fits, product-low _ _ _ _ _ c.requires c.if-w-eq0.false c.band_in-b.ensures)

pub overflow_mul-result-2 : goal.overflow_mul-result-2
overflow_mul-result-2 c = omega (arith, product_high _ _ _ _ _ c.requires c.if-w-eq0.false c.band_in-b.ensures)

pub overflow_add-result-3 : goal.overflow_add-result-3
overflow_add-result-3 c = omega (arith, c.requires.high_fits, product_high _ _ _ _ _ c.requires c.if-w-eq0.false c.band_in-b.ensures)
