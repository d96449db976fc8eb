-- Laws of what `specs/ZeroProducts.antt` defines. Assumes nothing.
use mathlib.Core.Path.{◌≡◌, ◌∙◌}
use lib.Ieee.{Float, binary64, neg, add, sub, mul}
use Rattle.signs.proofs.Signs.{neg-neg, mul-neg, mul-swap}
use Rattle.complex.specs.declared.Complex.{Complex}
use Rattle.complex.specs.Arithmetic.{complex_of, product, negation, scaled}
use Rattle.complex.specs.Zeros.{zero_float}
use Rattle.svd_pair.specs.declared.Factors.{Factors}
use Rattle.svd_pair.specs.Turns.{turn_factors}
use Rattle.svd_pair.specs.ZeroProducts.{RealTurn}

pub factors-real : {f : Factors} (cosine sine : Float) (phase : Complex) → f ≡ turn_factors cosine sine phase → RealTurn f
unfolding turn_factors negation
factors-real cosine sine phase e = record { cosine = rw e; sine = rw e }

-- what -0.0 gives
minus-zero : (x : Float) → mul binary64 (neg zero_float) x ≡ neg (mul binary64 x zero_float)
minus-zero x = mul-swap (neg zero_float) x ∙ mul-neg x zero_float

-- the product with a number of imaginary part +0.0
pub times-plus : (f x z : Complex) → f.im ≡ zero_float → z ≡ scaled x zero_float
    → complex_of (sub binary64 (mul binary64 f.re x.re) z.im) (add binary64 (mul binary64 f.re x.im) z.re) ≡ product f x
unfolding product scaled
times-plus f x z e g = rw (e, g, mul-swap zero_float x.im, mul-swap zero_float x.re)

-- and of imaginary part -0.0
pub times-minus : (f x z : Complex) → f.im ≡ neg zero_float → z ≡ scaled x zero_float
    → complex_of (add binary64 (mul binary64 f.re x.re) z.im) (sub binary64 (mul binary64 f.re x.im) z.re) ≡ product f x
unfolding product scaled sub
times-minus f x z e g = rw (e, g, minus-zero x.im, minus-zero x.re, neg-neg (mul binary64 x.im zero_float))
