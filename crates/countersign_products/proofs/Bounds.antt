-- No sum of a product's entry wraps: a term is at most 9 * 2^56, sixteen of them 9 * 2^60. Assumes nothing.
use mathlib.Core.Path.{◌≡◌, sym, ap, subst, ◌∙◌}
use mathlib.Core.Bool.{Bool}
use mathlib.Core.List.{List}
use Prim.Native.Nat.{ℕ, zero, suc, ◌+◌, ◌*◌, ◌/◌, ◌%◌, ◌^◌, ◌≤◌, ◌<◌}
use native.Mathlib.Numerals.{add-one}
use native.Mathlib.Nat.{mul-le-mul_right, mul_comm, add-mul, div-lt_iff_lt-mul}
use native.Mathlib.Omega.{arith}
use lib.Ieee.{Float}
use Rattle.countersign_sums.specs.declared.Gaussian.{Gaussian}
use Rattle.countersign_sums.specs.Wholes.{whole_of, weight}
use Rattle.countersign_sums.specs.Gaussians.{zero_of, sum_of, difference_of, product_of, by_whole, both_within, heft}
use Rattle.countersign_sums.specs.Integers.{Alike}
use Rattle.countersign_sums.proofs.Weights.{heft-by}
use Rattle.countersign_sums.proofs.Alikes.{alike_self, lighter, alike-product, alike-none, alike-more, alike-difference, product-light, sum-light, within-alike}
use Rattle.countersign_cells.specs.Cells.{value_at, whole_cell}
use Rattle.countersign_cells.proofs.CellBounds.{cell-small}
use Rattle.countersign_products.specs.Products.{term, terms_of, product_gap, product_fits}

-- ---- how the functions' results make them

module _ (u s vt : List Float) (m n i j t : ℕ) {y z : Gaussian} (e : Alike y (by_whole (whole_cell u (t * m + i)) (value_at s t)) (3 * 2 ^ 37)) (f : Alike z (whole_cell vt (t * n + j)) (3 * 2 ^ 19)) where
  pub made-term : {r : Gaussian} → r ≡ product_of y z → Alike r (term u s vt m n i j t) (9 * 2 ^ 56)
  unfolding term
  made-term g = rw g (lighter (9 * 2 ^ 56) (alike-product e f) (omega arith))

module _ (u s vt : List Float) (m n i j : ℕ) where
  pub terms-none : Alike zero_of (terms_of u s vt m n i j 0) (0 * (9 * 2 ^ 56))
  unfolding terms_of
  terms-none = alike-none (9 * 2 ^ 56)

  one_more : (t : ℕ) → sum_of (terms_of u s vt m n i j t) (term u s vt m n i j t) ≡ terms_of u s vt m n i j (t + 1)
  unfolding terms_of
  one_more t = ap (terms_of u s vt m n i j) (sym (add-one t))

  module _ (t : ℕ) {x y : Gaussian} (e : Alike x (terms_of u s vt m n i j t) (t * (9 * 2 ^ 56))) (f : Alike y (term u s vt m n i j t) (9 * 2 ^ 56)) where
    pub terms-more : {z : Gaussian} → z ≡ sum_of x y → Alike z (terms_of u s vt m n i j (t + 1)) ((t + 1) * (9 * 2 ^ 56))
    terms-more g = rw (sym (one_more t)) (alike-more t (9 * 2 ^ 56) e f g)

    pub sum_fits : (k : ℕ) → t < k → k ≤ 16 → heft x + heft y < 2 ^ 64
    sum_fits k h l = omega (arith, sum-light e f)

pub one-fits : (a : List Float) (c : ℕ) {x : Gaussian} → x ≡ whole_cell a c → heft x * weight (whole_of (2 ^ 36) 0) < 2 ^ 64
one-fits a c e = rw e (omega (arith, cell-small a c))

module _ (a u s vt : List Float) (m n k c : ℕ) {x y z : Gaussian} (f : Alike y (terms_of u s vt m n (c % m) (c / m) k) (9 * 2 ^ 60)) (e : x ≡ whole_cell a c) (g : z ≡ by_whole x (whole_of (2 ^ 36) 0)) where
  entry-alike : Alike z (by_whole (whole_cell a c) (whole_of (2 ^ 36) 0)) (2 ^ 55)
  entry-alike =
      rw (g, e)
      (alike_self (by_whole (whole_cell a c) (whole_of (2 ^ 36) 0)) (2 ^ 55) (omega (arith, heft-by (whole_cell a c) (whole_of (2 ^ 36) 0), cell-small a c)))

  -- THE BOUND: whatever the numbers, the sums and the gap stay below 10 * 2^60
  pub gap-fits : heft z + heft y < 2 ^ 64
  gap-fits = omega (arith, sum-light entry-alike f)

  pub made-gap : {r : Gaussian} → r ≡ difference_of z y → Alike r (product_gap a u s vt m n k c) (10 * 2 ^ 60)
  unfolding product_gap
  made-gap h = rw h (lighter (10 * 2 ^ 60) (alike-difference entry-alike f) (omega arith))

pub made-fits : (a u s vt : List Float) (m n k t c : ℕ) {x : Gaussian} {b : Bool} → Alike x (product_gap a u s vt m n k c) (10 * 2 ^ 60) → b ≡ both_within x t
    → b ≡ product_fits a u s vt m n k t c
unfolding product_fits
made-fits a u s vt m n k t c e f = f ∙ within-alike t e

-- ---- where the cells stand

-- place i of block t, of k blocks of m
pub in_block : (m k t i : ℕ) → t < k → i < m → t * m + i < k * m
in_block m k t i h l = omega (arith, mul-le-mul_right {m = t + 1} {n = k} m (omega arith), add-mul t 1 m)

pub rows-some : (m n c : ℕ) → c < m * n → 0 < m
rows-some zero n c h = absurd (omega arith)
rows-some (suc m) n c h = omega arith

pub column-in : (m n c : ℕ) → c < m * n → c / m < n
column-in m n c h = (div-lt_iff_lt-mul (rows-some m n c h)).1 (rw (mul_comm n m) h)
