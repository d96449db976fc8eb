-- The squared moduli of cells, added. Definitions only.
use Rattle.std.specs.Prelude.{ℕ, zero, suc, Float}
use Rattle.std.specs.Float.Ieee as Ieee
use Rattle.std.specs.Float.{binary64}
use Rattle.complex.specs.declared.Complex.{Complex}
use Rattle.complex.specs.Arithmetic.{norm_sqr}
use Rattle.complex.specs.Zeros.{zero_float}

-- the squared moduli of the first k cells, added in order from +0.0. The Rust's sum starts at -0.0; a squared modulus is
-- never -0.0, so +0.0 gives the same bits
unfoldable pub squares_to : (ℕ → Complex) → ℕ → Float
squares_to f zero = zero_float
squares_to f (suc k) = Ieee.add binary64 (squares_to f k) (norm_sqr (f k))
