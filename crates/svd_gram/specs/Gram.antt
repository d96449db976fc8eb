-- The Gram sums of two columns that start at the cells a and b of a matrix of c cells: over the rows below a count, in rising order, from +0.0. Assumes nothing.
use Rattle.std.specs.Prelude.{List, ℕ, zero, suc, ◌+◌, Float}
use Rattle.std.specs.Float.Ieee as Ieee
use Rattle.std.specs.Float.{binary64}
use Rattle.complex.specs.declared.Complex.{Complex}
use Rattle.complex.specs.Arithmetic.{complex_of, product, sum_of, conjugate, norm_sqr}
use Rattle.complex.specs.Planes.{plane_at}
use Rattle.complex.specs.Zeros.{zero_float}
use Rattle.svd_gram.specs.declared.GramSums.{GramSums}

unfoldable pub no_sums : GramSums
no_sums = record { pp = zero_float; qq = zero_float; pq = complex_of zero_float zero_float }

-- one row more, with the cells ap and aq
unfoldable pub one_row : GramSums → Complex → Complex → GramSums
one_row g ap aq =
    record {
      pp = Ieee.add binary64 g.pp (norm_sqr ap);
      qq = Ieee.add binary64 g.qq (norm_sqr aq);
      pq = sum_of g.pq (product (conjugate ap) aq);
    }

-- the rows below k
unfoldable pub gram_to : List Float → ℕ → ℕ → ℕ → ℕ → GramSums
gram_to xs c a b zero = no_sums
gram_to xs c a b (suc k) = one_row (gram_to xs c a b k) (plane_at xs c (a + k)) (plane_at xs c (b + k))
