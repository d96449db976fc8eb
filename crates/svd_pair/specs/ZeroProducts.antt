-- What a turn multiplies by a zero: the cosine's imaginary part is +0.0 and the negated sine's is -0.0, and the two products with a
-- cell differ by their sign alone, so that one multiplication serves both. Assumes nothing.
use Rattle.std.specs.Prelude.{◌≡◌}
use Rattle.std.specs.Float.Ieee.{neg}
use Rattle.complex.specs.Zeros.{zero_float}
use Rattle.svd_pair.specs.declared.Factors.{Factors}

-- the cosine and the negated sine of f are real numbers with these zeros
pub record RealTurn (f : Factors) : Type 0 where
  pub cosine : f.pp.im ≡ zero_float
  pub sine : f.qp.im ≡ neg zero_float
