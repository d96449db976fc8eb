-- Laws of squared moduli that are added. Assumes nothing.
use mathlib.Core.Path.{◌≡◌, refl}
use Prim.Native.Nat.{ℕ, ◌+◌}
use native.Mathlib.Numerals.{add-one}
use lib.Ieee as Ieee
use lib.Ieee.{Float, binary64}
use Rattle.complex.specs.declared.Complex.{Complex}
use Rattle.complex.specs.Arithmetic.{norm_sqr}
use Rattle.complex.specs.Zeros.{zero_float}
use Rattle.complex.specs.Squares.{squares_to}

pub squares-none : (f : ℕ → Complex) → zero_float ≡ squares_to f 0
unfolding squares_to
squares-none f = refl

pub squares-more : (f : ℕ → Complex) (k : ℕ) {x y : Float} {z : Complex} → x ≡ squares_to f k → z ≡ f k → y ≡ norm_sqr z → Ieee.add binary64 x y ≡ squares_to f (k + 1)
unfolding squares_to
squares-more f k e g h = rw (add-one, ← e, ← g, h)
