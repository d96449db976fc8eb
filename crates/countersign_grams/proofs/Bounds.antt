-- No sum of a Gram matrix wraps: a place adds at most 9 * 2^38, 4,096 of them 9 * 2^50. Assumes nothing.
use mathlib.Core.Path.{◌≡◌, sym, ap, subst, ◌∙◌}
use mathlib.Core.Bool.{Bool, true, false, cond}
use mathlib.Core.List.{List}
use Prim.Native.Nat.{ℕ, zero, suc, ◌+◌, ◌*◌, ◌/◌, ◌%◌, ◌^◌, ◌≤◌, ◌<◌}
use native.Mathlib.Numerals.{add-one}
use native.Mathlib.Nat.{mul-le-mul_right, add-mul, div-lt_iff_lt-mul}
use native.Mathlib.Omega.{arith}
use lib.Dec.{eqb}
use lib.Ieee.{Float}
use borrow.Author.Tests.{eq-eqb, ne_eqb}
use Rattle.countersign_sums.specs.declared.Gaussian.{Gaussian}
use Rattle.countersign_sums.specs.Wholes.{whole_of}
use Rattle.countersign_sums.specs.Gaussians.{gaussian_of, zero_of, sum_of, difference_of, product_of, conjugate_of, both_within, heft}
use Rattle.countersign_sums.specs.Integers.{Alike}
use Rattle.countersign_sums.proofs.Alikes.{alike_self, lighter, alike-conjugate, alike-product, alike-none, alike-more, alike-difference, product-light, sum-light, within-alike}
use Rattle.countersign_sums.proofs.Parts.{within-divided}
use Rattle.countersign_cells.specs.Cells.{whole_cell}
use Rattle.countersign_grams.specs.Grams.{inner, inners_of, identity_at, inner_gap, gram_gap, inner_fits, gram_fits}

-- ---- how the functions' results make them

module _ (x : List Float) (a b : ℕ) {y z w : Gaussian} (e : Alike y (whole_cell x a) (3 * 2 ^ 19)) (g : Alike w (whole_cell x b) (3 * 2 ^ 19)) (f : z ≡ conjugate_of y) where
  first : Alike z (conjugate_of (whole_cell x a)) (3 * 2 ^ 19)
  first = rw f (alike-conjugate e)

  pub inner-fits : heft z * heft w < 2 ^ 64
  inner-fits = omega (arith, product-light first g)

  inner-alike : {r : Gaussian} → r ≡ product_of z w → Alike r (product_of (conjugate_of (whole_cell x a)) (whole_cell x b)) (9 * 2 ^ 38)
  inner-alike h = rw h (lighter (9 * 2 ^ 38) (alike-product first g) (omega arith))

pub made-inner : (x : List Float) (len p q i : ℕ) {y z w r : Gaussian} → Alike y (whole_cell x (p * len + i)) (3 * 2 ^ 19) → Alike w (whole_cell x (q * len + i)) (3 * 2 ^ 19) → z ≡ conjugate_of y
    → r ≡ product_of z w → Alike r (inner x len p q i) (9 * 2 ^ 38)
unfolding inner
made-inner x len p q i e g f h = inner-alike x (p * len + i) (q * len + i) e g f h

pub inners-none : (x : List Float) (len p q : ℕ) → Alike zero_of (inners_of x len p q 0) (0 * (9 * 2 ^ 38))
unfolding inners_of
inners-none x len p q = alike-none (9 * 2 ^ 38)

one_more : (x : List Float) (len p q i : ℕ) → sum_of (inners_of x len p q i) (inner x len p q i) ≡ inners_of x len p q (i + 1)
unfolding inners_of
one_more x len p q i = ap (inners_of x len p q) (sym (add-one i))

module _ (x : List Float) (len p q i : ℕ) {a b : Gaussian} (e : Alike a (inners_of x len p q i) (i * (9 * 2 ^ 38))) where
  pub inners-more : Alike b (inner x len p q i) (9 * 2 ^ 38) → {r : Gaussian} → r ≡ sum_of a b → Alike r (inners_of x len p q (i + 1)) ((i + 1) * (9 * 2 ^ 38))
  inners-more f g = rw (sym (one_more x len p q i)) (alike-more i (9 * 2 ^ 38) e f g)

  pub sum_fits : Alike b (inner x len p q i) (9 * 2 ^ 38) → i < len → len ≤ 4096 → heft a + heft b < 2 ^ 64
  sum_fits f h l = omega (arith, sum-light e f)

identity-small : (p q : ℕ) → heft (identity_at p q) ≤ 2 ^ 36
unfolding identity_at heft
identity-small p q = go (eqb p q)
  where
    go : (b : Bool) → cond b (2 ^ 36) 0 + 0 + (0 + 0) ≤ 2 ^ 36
    go true = omega arith
    go false = omega arith

module _ (x : List Float) (len k c : ℕ) {a b : Gaussian} (e : Alike a (inners_of x len (c / k) (c % k) len) (9 * 2 ^ 50)) (f : b ≡ identity_at (c / k) (c % k)) where
  other : Alike b (identity_at (c / k) (c % k)) (2 ^ 36)
  other = rw f (alike_self (identity_at (c / k) (c % k)) (2 ^ 36) (identity-small (c / k) (c % k)))

  -- THE BOUND: whatever the numbers, the sums and the gap stay below 2^54
  pub gap-fits : heft a + heft b < 2 ^ 64
  gap-fits = omega (arith, sum-light e other)

  pub made-gap : {r : Gaussian} → r ≡ difference_of a b → Alike r (gram_gap x len k c) (2 ^ 54)
  unfolding gram_gap inner_gap
  made-gap g = rw g (lighter (2 ^ 54) (alike-difference e other) (omega arith))

-- the tolerance divided is the same test as the gap times 2^18
pub made-fits : (x : List Float) (len k c t : ℕ) {a : Gaussian} {b : Bool} → Alike a (gram_gap x len k c) (2 ^ 54) → b ≡ both_within a (t / 2 ^ 18) → b ≡ gram_fits x len k t c
unfolding gram_fits inner_fits gram_gap
made-fits x len k c t e f = f ∙ within-alike (t / 2 ^ 18) e ∙ within-divided (inner_gap x len (c / k) (c % k)) (2 ^ 18) t (omega arith)

-- ---- where the cells stand

pub some : (k c : ℕ) → c < k * k → 0 < k
some zero c h = absurd (omega arith)
some (suc k) c h = omega arith

pub first-in : (k c : ℕ) → c < k * k → c / k < k
first-in k c h = (div-lt_iff_lt-mul (some k c h)).1 h
