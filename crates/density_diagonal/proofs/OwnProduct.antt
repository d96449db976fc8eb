-- A number with allowed components times its own conjugate: the imaginary part is +0.0, always. Assumes nothing.
use mathlib.Core.Path.{◌≡◌, refl, sym, ap, ap₂, ◌∙◌}
use mathlib.Core.Bool.{true, false}
use Prim.Native.Nat.{◌*◌}
use native.Mathlib.Nat.{mul-pos}
use lib.Ieee.{Float, nan, inf, fin, binary64, add, mul, neg, sum, up, down, of_bits}
use Rattle.numbers.specs.Numbers.{allowed, is_finite}
use Rattle.complex.specs.declared.Complex.{Complex}
use Rattle.complex.specs.Arithmetic.{complex_of, product, conjugate, norm_sqr}
use Rattle.complex.specs.Zeros.{zero_float}
use Rattle.signs.proofs.Zeros.{round-zero, less-itself}
use Rattle.signs.proofs.Signs.{mul-swap, neg-mul}
use Rattle.complex.proofs.ConjugateProduct.{conjugate_product, conjugate-product}
use Rattle.finite_products.proofs.WithinLaws.{down_pos}
use Rattle.finite_products.proofs.Theorems.{mul-finite}

-- ---- a finite number and its negative

-- p + (-p) is +0.0
cancels : (p : Float) → is_finite p ≡ true → add binary64 p (neg p) ≡ zero_float
unfolding is_finite add sum neg of_bits
cancels nan h = cc
cancels (inf s) h = cc
cancels (fin true m e) h =
    less-itself true false (m * up e * down e) (down e * down e) ∙ round-zero false (down e * down e) (mul-pos (down_pos e) (down_pos e))
cancels (fin false m e) h =
    less-itself false true (m * up e * down e) (down e * down e) ∙ round-zero false (down e * down e) (mul-pos (down_pos e) (down_pos e))

-- A NUMBER TIMES ITS OWN CONJUGATE IS ITS norm_sqr
pub own-product : (a : Complex) → allowed a.re ≡ true → allowed a.im ≡ true → product a (conjugate a) ≡ complex_of (norm_sqr a) zero_float
unfolding conjugate_product norm_sqr
own-product a h g =
    sym (conjugate-product a a)
    ∙ ap (complex_of (norm_sqr a))
    (ap₂ (add binary64) (mul-swap a.im a.re) (neg-mul a.re a.im) ∙ cancels (mul binary64 a.re a.im) (mul-finite a.re a.im h g))

-- +0.0 and +0.0
pub zero-zero : add binary64 zero_float zero_float ≡ zero_float
unfolding add of_bits
zero-zero = refl
