-- The entries of A less U·S·V†, in whole numbers of 2^-54. A is m by n, column-major; U m by k, column-major; V† k by
-- n, row-major. Definitions only.
use Rattle.std.specs.Prelude.{◌≡◌, Bool, List, ℕ, zero, suc, ◌+◌, ◌*◌, ◌/◌, ◌%◌, ◌^◌, ◌≤◌, Float}
use Rattle.countersign_sums.specs.declared.Gaussian.{Gaussian}
use Rattle.countersign_sums.specs.Wholes.{whole_of}
use Rattle.countersign_sums.specs.Gaussians.{zero_of, sum_of, difference_of, product_of, by_whole, both_within}
use Rattle.countersign_cells.specs.Cells.{value_at, whole_cell}
use Rattle.countersign_shifted.specs.Shifted.{Shifted}

-- the sizes of an accepted call
pub record Factors (m n k u s vt : ℕ) : Type 0 where
  pub most : k ≤ 16
  pub u-is : u ≡ 2 * (m * k)
  pub s-is : s ≡ k
  pub vt_is : vt ≡ 2 * (k * n)

-- the numbers of the three factors, as they stand to be read
pub record Read (u : List Float) (us : List ℕ) (s : List Float) (ss : List ℕ) (vt : List Float) (vs : List ℕ) : Type 0 where
  pub u-read : Shifted u us
  pub s_read : Shifted s ss
  pub vt-read : Shifted vt vs

-- what value t adds to row i and column j of the product: U[i,t] times s[t], times V†[t,j]; three numbers of 2^-18
unfoldable pub term : List Float → List Float → List Float → ℕ → ℕ → ℕ → ℕ → ℕ → Gaussian
term u s vt m n i j t = product_of (by_whole (whole_cell u (t * m + i)) (value_at s t)) (whole_cell vt (t * n + j))

-- the sum of the first terms
unfoldable pub terms_of : List Float → List Float → List Float → ℕ → ℕ → ℕ → ℕ → ℕ → Gaussian
terms_of u s vt m n i j zero = zero_of
terms_of u s vt m n i j (suc t) = sum_of (terms_of u s vt m n i j t) (term u s vt m n i j t)

-- cell c of A, row c % m and column c / m, times 2^36, less the product's
unfoldable pub product_gap : List Float → List Float → List Float → List Float → ℕ → ℕ → ℕ → ℕ → Gaussian
product_gap a u s vt m n k c = difference_of (by_whole (whole_cell a c) (whole_of (2 ^ 36) 0)) (terms_of u s vt m n (c % m) (c / m) k)

-- each part is within the tolerance, which is in whole numbers of 2^-54 too
unfoldable pub product_fits : List Float → List Float → List Float → List Float → ℕ → ℕ → ℕ → ℕ → ℕ → Bool
product_fits a u s vt m n k tolerance c = both_within (product_gap a u s vt m n k c) tolerance
