-- What yes means, in the integers: A is U·S·V† within the tolerance, both sets of vectors are orthonormal within it,
-- S never rises and is never negative. Definitions only; `Theorems` shows that the call says yes exactly then.
use Rattle.std.specs.Prelude.{◌≡◌, true, cond, List, ℕ, suc, ◌+◌, ◌*◌, ◌^◌, ◌≤◌, ◌<◌, eqb, ℤ, pos, nat_abs, Float, length, get_or, is_some}
use Rattle.std.specs.Int.Signed.{le_z}
use Rattle.std.specs.Float.{nan}
use Rattle.countersign_grid.specs.Grid.{grid_of}
use Rattle.countersign_sums.specs.Integers.{value, Pair, minus_pair, times_pair, scale_pair, conjugate_pair, total}
use Rattle.countersign_cells.specs.Cells.{value_at}

-- every number of a list is a whole number of 2^-18 of magnitude at most 1
abbrev pub OnGrid : List Float → Type 0
OnGrid l = (j : ℕ) → j < length l → is_some (grid_of (get_or l j nan)) ≡ true

-- number i of a list, as a whole number of 2^-18
unfoldable pub number_z : List Float → ℕ → ℤ
number_z s i = value (value_at s i)

-- cell x of a list: its real part and its imaginary part
unfoldable pub cell_z : List Float → ℕ → Pair
cell_z s x = (number_z s (2 * x), number_z s (2 * x + 1))

-- row i and column j of U·S·V†, as whole numbers of 2^-54: the sum over t of U[i,t] S[t] V†[t,j]
unfoldable pub product_z : List Float → List Float → List Float → ℕ → ℕ → ℕ → ℕ → ℕ → Pair
product_z u s vt m n k i j = total (λ t. times_pair (scale_pair (cell_z u (t * m + i)) (number_z s t)) (cell_z vt (t * n + j))) k

-- the inner product of the vectors p and q, as whole numbers of 2^-36: the sum over i of the conjugate of x[p,i]
-- times x[q,i]
unfoldable pub inner_z : List Float → ℕ → ℕ → ℕ → Pair
inner_z x len p q = total (λ i. times_pair (conjugate_pair (cell_z x (p * len + i))) (cell_z x (q * len + i))) len

-- 1 where p is q, else 0, as whole numbers of 2^-36
unfoldable pub identity_z : ℕ → ℕ → Pair
identity_z p q = (pos (cond (eqb p q) (2 ^ 36) 0), pos 0)

-- each part, times k, is at most t in magnitude
abbrev pub Within : Pair → ℕ → ℕ → Type 0
Within z k t = (nat_abs z.0 * k ≤ t) × (nat_abs z.1 * k ≤ t)

-- vectors one after the other in a list, of so many cells each: k of them, orthonormal within the tolerance of t
-- times 2^-54
abbrev pub Orthonormal : List Float → ℕ → ℕ → ℕ → Type 0
Orthonormal x len k t = (p q : ℕ) → p < k → q < k → Within (minus_pair (inner_z x len p q) (identity_z p q)) (2 ^ 18) t

pub record Sound (a : List Float) (m n k : ℕ) (u s vt : List Float) (t : ℕ) : Type 0 where
  pub product : (i j : ℕ) → i < m → j < n → Within (minus_pair (scale_pair (cell_z a (j * m + i)) (pos (2 ^ 36))) (product_z u s vt m n k i j)) 1 t
  pub left : Orthonormal u m k t
  pub right : Orthonormal vt n k t
  pub falls : (i : ℕ) → suc i < k → le_z (number_z s (suc i)) (number_z s i) ≡ true
  pub least : (i : ℕ) → i < k → le_z (pos 0) (number_z s i) ≡ true
