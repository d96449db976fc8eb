-- The terms of a block of up to 32 rows of two columns, laid out before they are summed: four runs of 32 numbers, the squares of p, those of q, and the real
-- and the imaginary parts of the mixed products. Summed in order after the rows before them they give the Gram sums. Assumes nothing.
use Rattle.std.specs.Prelude.{◌≡◌, List, ℕ, zero, suc, ◌+◌, ◌<◌, Float, length, get_or}
use Rattle.std.specs.Float.Ieee as Ieee
use Rattle.std.specs.Float.{binary64, nan}
use Rattle.complex.specs.Arithmetic.{complex_of, product, sum_of, conjugate, norm_sqr}
use Rattle.complex.specs.Planes.{plane_at}
use Rattle.svd_gram.specs.declared.GramSums.{GramSums}

-- the terms of the rows below w of the columns from the cells a and b on
pub record Terms (xs : List Float) (c a b w : ℕ) (t : List Float) : Type 0 where
  pub room : length t ≡ 128
  pub pp : (j : ℕ) → j < w → get_or t j nan ≡ norm_sqr (plane_at xs c (a + j))
  pub qq : (j : ℕ) → j < w → get_or t (32 + j) nan ≡ norm_sqr (plane_at xs c (b + j))
  pub pq : (j : ℕ) → j < w → complex_of (get_or t (64 + j) nan) (get_or t (96 + j) nan) ≡ product (conjugate (plane_at xs c (a + j))) (plane_at xs c (b + j))

-- the sums g and the first k terms of each run
unfoldable pub added_to : GramSums → List Float → ℕ → GramSums
added_to g t zero = g
added_to g t (suc k) =
    let s = added_to g t k in
    record {
      pp = Ieee.add binary64 s.pp (get_or t k nan);
      qq = Ieee.add binary64 s.qq (get_or t (32 + k) nan);
      pq = sum_of s.pq (complex_of (get_or t (64 + k) nan) (get_or t (96 + k) nan));
    }
