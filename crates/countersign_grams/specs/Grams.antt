-- The Gram matrix of k vectors less the identity, in whole numbers of 2^-36. The vectors stand one after the other in
-- the list, of as many cells each as the length says: the columns of U, or the rows of V†. Definitions only.
use Rattle.std.specs.Prelude.{Bool, cond, List, ℕ, zero, suc, ◌+◌, ◌*◌, ◌/◌, ◌%◌, ◌^◌, eqb, Float}
use Rattle.countersign_sums.specs.declared.Gaussian.{Gaussian}
use Rattle.countersign_sums.specs.Wholes.{whole_of}
use Rattle.countersign_sums.specs.Gaussians.{gaussian_of, zero_of, sum_of, difference_of, product_of, conjugate_of, times_within}
use Rattle.countersign_cells.specs.Cells.{whole_cell}

-- what place i adds to the inner product of the vectors p and q: the first conjugated; two numbers of 2^-18
unfoldable pub inner : List Float → ℕ → ℕ → ℕ → ℕ → Gaussian
inner x len p q i = product_of (conjugate_of (whole_cell x (p * len + i))) (whole_cell x (q * len + i))

-- the sum of the first places
unfoldable pub inners_of : List Float → ℕ → ℕ → ℕ → ℕ → Gaussian
inners_of x len p q zero = zero_of
inners_of x len p q (suc i) = sum_of (inners_of x len p q i) (inner x len p q i)

-- the identity's entry: 1 is 2^36 of 2^-36
unfoldable pub identity_at : ℕ → ℕ → Gaussian
identity_at p q = gaussian_of (whole_of (cond (eqb p q) (2 ^ 36) 0) 0) (whole_of 0 0)

-- the inner product of the vectors p and q, less the identity's entry
unfoldable pub inner_gap : List Float → ℕ → ℕ → ℕ → Gaussian
inner_gap x len p q = difference_of (inners_of x len p q len) (identity_at p q)

-- cell c of the k by k matrix: the vectors c / k and c % k
unfoldable pub gram_gap : List Float → ℕ → ℕ → ℕ → Gaussian
gram_gap x len k c = inner_gap x len (c / k) (c % k)

-- each part, times 2^18, is within the tolerance: a whole number of 2^-36 is 2^18 of 2^-54
unfoldable pub inner_fits : List Float → ℕ → ℕ → ℕ → ℕ → Bool
inner_fits x len tolerance p q = times_within (inner_gap x len p q) (2 ^ 18) tolerance

unfoldable pub gram_fits : List Float → ℕ → ℕ → ℕ → ℕ → Bool
gram_fits x len k tolerance c = inner_fits x len tolerance (c / k) (c % k)
