-- What a number times the conjugate of another is without a conjugate. Assumes nothing.
use mathlib.Core.Path.{◌≡◌, sym, ap, ap₂, ◌∙◌}
use lib.Ieee.{Float, binary64, add, mul, neg}
use Rattle.signs.proofs.Signs.{mul-neg, neg-mul, sub-neg, add-swap}
use Rattle.complex.specs.declared.Complex.{Complex}
use Rattle.complex.specs.Arithmetic.{complex_of, product, conjugate}

-- re: a.re*b.re + a.im*b.im, im: a.im*b.re + (-a.re)*b.im
unfoldable pub conjugate_product : Complex → Complex → Complex
conjugate_product a b =
    complex_of (add binary64 (mul binary64 a.re b.re) (mul binary64 a.im b.im))
    (add binary64 (mul binary64 a.im b.re) (mul binary64 (neg a.re) b.im))

-- THE SAME BITS AS THE PRODUCT WITH THE CONJUGATE
pub conjugate-product : (a b : Complex) → conjugate_product a b ≡ product a (conjugate b)
unfolding conjugate_product product conjugate
conjugate-product a b =
    ap₂ complex_of (sym (sub-neg (mul binary64 a.re b.re) a.im b.im))
    (add-swap (mul binary64 a.im b.re) (mul binary64 (neg a.re) b.im)
    ∙ ap (λ (x : Float). add binary64 x (mul binary64 a.im b.re)) (neg-mul a.re b.im ∙ sym (mul-neg a.re b.im)))
