-- What a reader may want to know of this crate's definitions and calls. Assumes nothing.
use mathlib.Core.Path.{◌≡◌}
use lib.Ieee.{binary64, add, mul, neg, of_bits}
use Rattle.signs.proofs.Signs.{own-plus, add-plus, zeros-alike}
use Rattle.complex.specs.declared.Complex.{Complex}
use Rattle.complex.specs.Arithmetic.{norm_sqr}
use Rattle.complex.specs.Zeros.{zero_float}

-- A sum of squared moduli may start at +0.0 or at −0.0: a squared modulus has no minus sign, so the first addition gives the same bits.
pub square-start : (z : Complex) → add binary64 zero_float (norm_sqr z) ≡ add binary64 (neg zero_float) (norm_sqr z)
unfolding of_bits neg norm_sqr
square-start z = zeros-alike _ (norm_sqr z) (add-plus (mul binary64 z.re z.re) (mul binary64 z.im z.im) (own-plus z.re) (own-plus z.im))
