-- The gaps and the tests carried to the integers. Assumes nothing.
use mathlib.Core.Path.{◌≡◌, refl, sym, ap, ap₂, subst, ◌∙◌}
use mathlib.Core.Bool.{Bool, true, false, cond, ◌&&◌}
use mathlib.Core.List.{List}
use Prim.Native.Nat.{ℕ, zero, suc, ◌+◌, ◌*◌, ◌/◌, ◌%◌, ◌^◌, ◌<◌}
use native.Mathlib.Nat.{div-add-mod', mod-lt, mul_comm}
use native.Mathlib.Omega.{arith}
use lib.Arith.{digits_lt, digits_div, digits_mod}
use lib.Dec.{eqb}
use lib.IntN.{ℤ, pos}
use lib.Signed.{le_z}
use lib.Ieee.{Float}
use Rattle.countersign_sums.specs.Wholes.{whole_of, at_most}
use Rattle.countersign_sums.specs.Gaussians.{zero_of, sum_of, by_whole, conjugate_of}
use Rattle.countersign_sums.specs.Integers.{value, values, Pair, plus_pair, minus_pair, times_pair, scale_pair, conjugate_pair, total}
use Rattle.countersign_sums.proofs.Integers.{values-sum, values-difference, values-product, values-by, values-conjugate, value_pos, near-of-times, times-of-near, once, at-most-is}
use Rattle.countersign_cells.specs.Cells.{value_at, whole_cell}
use Rattle.countersign_products.specs.Products.{term, terms_of, product_gap, product_fits}
use Rattle.countersign_products.proofs.Bounds.{rows-some, column-in}
use Rattle.countersign_grams.specs.Grams.{inner, inners_of, identity_at, inner_gap, inner_fits, gram_fits}
use Rattle.countersign_grams.proofs.Bounds.{some, first-in}
use Rattle.countersign_grams.proofs.Theorems.{gram-at, at-digits}
use Rattle.countersign_scans.specs.Scans.{value_fits}
use Rattle.countersign.specs.Reader.{number_z, cell_z, product_z, inner_z, identity_z, Within, Orthonormal}

-- ---- sums

cell-is : (s : List Float) (x : ℕ) → values (whole_cell s x) ≡ cell_z s x
unfolding values whole_cell cell_z number_z
cell-is s x = refl

zero_is : values zero_of ≡ (pos 0, pos 0)
unfolding values
zero_is = ap₂ (λ (x y : ℤ). (x, y)) (value_pos 0) (value_pos 0)

total-none : (f : ℕ → Pair) → (pos 0, pos 0) ≡ total f 0
unfolding total
total-none f = refl

total-more : (f : ℕ → Pair) (n : ℕ) → plus_pair (total f n) (f n) ≡ total f (suc n)
unfolding total
total-more f n = refl

term_is : (u s vt : List Float) (m n i j t : ℕ) → values (term u s vt m n i j t) ≡ times_pair (scale_pair (cell_z u (t * m + i)) (number_z s t)) (cell_z vt (t * n + j))
unfolding term number_z
term_is u s vt m n i j t =
    values-product (by_whole (whole_cell u (t * m + i)) (value_at s t)) (whole_cell vt (t * n + j))
    ∙ ap₂ times_pair (values-by (whole_cell u (t * m + i)) (value_at s t) ∙ ap (λ (z : Pair). scale_pair z (value (value_at s t))) (cell-is u (t * m + i))) (cell-is vt (t * n + j))

terms-zero : (u s vt : List Float) (m n i j : ℕ) → terms_of u s vt m n i j 0 ≡ zero_of
unfolding terms_of
terms-zero u s vt m n i j = refl

terms-suc : (u s vt : List Float) (m n i j t : ℕ) → terms_of u s vt m n i j (suc t) ≡ sum_of (terms_of u s vt m n i j t) (term u s vt m n i j t)
unfolding terms_of
terms-suc u s vt m n i j t = refl

terms-are : (u s vt : List Float) (m n i j k : ℕ) → values (terms_of u s vt m n i j k) ≡ product_z u s vt m n k i j
unfolding product_z
terms-are u s vt m n i j zero = ap values (terms-zero u s vt m n i j) ∙ zero_is ∙ total-none _
terms-are u s vt m n i j (suc t) =
    ap values (terms-suc u s vt m n i j t) ∙ values-sum (terms_of u s vt m n i j t) (term u s vt m n i j t)
    ∙ ap₂ plus_pair (terms-are u s vt m n i j t) (term_is u s vt m n i j t) ∙ total-more _ t

inner-is : (x : List Float) (len p q i : ℕ) → values (inner x len p q i) ≡ times_pair (conjugate_pair (cell_z x (p * len + i))) (cell_z x (q * len + i))
unfolding inner
inner-is x len p q i =
    values-product (conjugate_of (whole_cell x (p * len + i))) (whole_cell x (q * len + i))
    ∙ ap₂ times_pair (values-conjugate (whole_cell x (p * len + i)) ∙ ap conjugate_pair (cell-is x (p * len + i))) (cell-is x (q * len + i))

inners-zero : (x : List Float) (len p q : ℕ) → inners_of x len p q 0 ≡ zero_of
unfolding inners_of
inners-zero x len p q = refl

inners-suc : (x : List Float) (len p q i : ℕ) → inners_of x len p q (suc i) ≡ sum_of (inners_of x len p q i) (inner x len p q i)
unfolding inners_of
inners-suc x len p q i = refl

inners-upto : (x : List Float) (len p q i : ℕ) → values (inners_of x len p q i) ≡ total (λ j. times_pair (conjugate_pair (cell_z x (p * len + j))) (cell_z x (q * len + j))) i
inners-upto x len p q zero = ap values (inners-zero x len p q) ∙ zero_is ∙ total-none _
inners-upto x len p q (suc i) =
    ap values (inners-suc x len p q i) ∙ values-sum (inners_of x len p q i) (inner x len p q i)
    ∙ ap₂ plus_pair (inners-upto x len p q i) (inner-is x len p q i) ∙ total-more _ i

inners-are : (x : List Float) (len p q : ℕ) → values (inners_of x len p q len) ≡ inner_z x len p q
unfolding inner_z
inners-are x len p q = inners-upto x len p q len

identity-is : (p q : ℕ) → values (identity_at p q) ≡ identity_z p q
unfolding values identity_at identity_z
identity-is p q = ap₂ (λ (x y : ℤ). (x, y)) (value_pos (cond (eqb p q) (2 ^ 36) 0)) (value_pos 0)

-- ---- gaps

-- THE PRODUCT'S GAP IN THE INTEGERS: A[i,j] 2^36 less the sum over t of U[i,t] S[t] V†[t,j]
pub product-gap-is : (a u s vt : List Float) (m n k c : ℕ)
    → values (product_gap a u s vt m n k c) ≡ minus_pair (scale_pair (cell_z a c) (pos (2 ^ 36))) (product_z u s vt m n k (c % m) (c / m))
unfolding product_gap
product-gap-is a u s vt m n k c =
    values-difference (by_whole (whole_cell a c) (whole_of (2 ^ 36) 0)) (terms_of u s vt m n (c % m) (c / m) k)
    ∙ ap₂ minus_pair
    (values-by (whole_cell a c) (whole_of (2 ^ 36) 0) ∙ ap₂ scale_pair (cell-is a c) (value_pos (2 ^ 36)))
    (terms-are u s vt m n (c % m) (c / m) k)

-- THE GRAM MATRIX'S GAP IN THE INTEGERS: the inner product less the identity's entry
pub inner-gap-is : (x : List Float) (len p q : ℕ) → values (inner_gap x len p q) ≡ minus_pair (inner_z x len p q) (identity_z p q)
unfolding inner_gap
inner-gap-is x len p q =
    values-difference (inners_of x len p q len) (identity_at p q) ∙ ap₂ minus_pair (inners-are x len p q) (identity-is p q)

-- ---- the tests, cell by cell

product-near : (a u s vt : List Float) (m n k t c : ℕ) → product_fits a u s vt m n k t c ≡ true
    → Within (minus_pair (scale_pair (cell_z a c) (pos (2 ^ 36))) (product_z u s vt m n k (c % m) (c / m))) 1 t
unfolding product_fits
product-near a u s vt m n k t c e =
    let g = product_gap a u s vt m n k c in
    subst (λ (z : Pair). Within z 1 t) (product-gap-is a u s vt m n k c) (near-of-times g 1 t (sym (once g t) ∙ e))

product-holds : (a u s vt : List Float) (m n k t c : ℕ)
    → Within (minus_pair (scale_pair (cell_z a c) (pos (2 ^ 36))) (product_z u s vt m n k (c % m) (c / m))) 1 t → product_fits a u s vt m n k t c ≡ true
unfolding product_fits
product-holds a u s vt m n k t c h =
    let g = product_gap a u s vt m n k c in
    once g t ∙ times-of-near g 1 t (subst (λ (z : Pair). Within z 1 t) (sym (product-gap-is a u s vt m n k c)) h)

module _ (a u s vt : List Float) (m n k t : ℕ) where
  abbrev Entry : ℕ → ℕ → ℕ → Type 0
  Entry c i j = Within (minus_pair (scale_pair (cell_z a c) (pos (2 ^ 36))) (product_z u s vt m n k i j)) 1 t

  pub entries-near : ((c : ℕ) → c < m * n → product_fits a u s vt m n k t c ≡ true) → (i j : ℕ) → i < m → j < n → Entry (j * m + i) i j
  entries-near f i j hi hj =
      let l : j * m + i < n * m = digits_lt hj hi in
      let r = product-near a u s vt m n k t (j * m + i) (f (j * m + i) (omega (arith, mul_comm m n))) in
      subst (λ (y : ℕ). Entry (j * m + i) i y) (digits_div j hi) (subst (λ (x : ℕ). Entry (j * m + i) x ((j * m + i) / m)) (digits_mod j hi) r)

  pub entries-hold : ((i j : ℕ) → i < m → j < n → Entry (j * m + i) i j) → (c : ℕ) → c < m * n → product_fits a u s vt m n k t c ≡ true
  entries-hold f c h =
      let r = f (c % m) (c / m) (mod-lt c (rows-some m n c h)) (column-in m n c h) in
      product-holds a u s vt m n k t c (subst (λ (x : ℕ). Entry x (c % m) (c / m)) (div-add-mod' c m) r)

inner-near : (x : List Float) (len t p q : ℕ) → inner_fits x len t p q ≡ true → Within (minus_pair (inner_z x len p q) (identity_z p q)) (2 ^ 18) t
unfolding inner_fits
inner-near x len t p q e = subst (λ (z : Pair). Within z (2 ^ 18) t) (inner-gap-is x len p q) (near-of-times (inner_gap x len p q) (2 ^ 18) t e)

inner-holds : (x : List Float) (len t p q : ℕ) → Within (minus_pair (inner_z x len p q) (identity_z p q)) (2 ^ 18) t → inner_fits x len t p q ≡ true
unfolding inner_fits
inner-holds x len t p q h = times-of-near (inner_gap x len p q) (2 ^ 18) t (subst (λ (z : Pair). Within z (2 ^ 18) t) (sym (inner-gap-is x len p q)) h)

pub grams-near : (x : List Float) (len k t : ℕ) → ((c : ℕ) → c < k * k → gram_fits x len k t c ≡ true) → Orthonormal x len k t
grams-near x len k t f p q hp hq =
    inner-near x len t p q (sym (at-digits x len k t p q hq) ∙ f (p * k + q) (digits_lt hp hq))

pub grams-hold : (x : List Float) (len k t : ℕ) → Orthonormal x len k t → (c : ℕ) → c < k * k → gram_fits x len k t c ≡ true
grams-hold x len k t f c h =
    gram-at x len k t c ∙ inner-holds x len t (c / k) (c % k) (f (c / k) (c % k) (first-in k c h) (mod-lt c (some k c h)))

-- ---- the values

least-is : (s : List Float) (i : ℕ) → at_most (whole_of 0 0) (value_at s i) ≡ le_z (pos 0) (number_z s i)
unfolding number_z
least-is s i = at-most-is (whole_of 0 0) (value_at s i) ∙ ap (λ (z : ℤ). le_z z (value (value_at s i))) (value_pos 0)

falls-is : (s : List Float) (i : ℕ) → at_most (value_at s (suc i)) (value_at s i) ≡ le_z (number_z s (suc i)) (number_z s i)
unfolding number_z
falls-is s i = at-most-is (value_at s (suc i)) (value_at s i)

and_left : (a b : Bool) → (a && b) ≡ true → a ≡ true
and_left true b e = refl
and_left false b e = e

and_right : (a b : Bool) → (a && b) ≡ true → b ≡ true
and_right true b e = e
and_right false b e = cc

pub value-least : (s : List Float) (i : ℕ) → value_fits s i ≡ true → le_z (pos 0) (number_z s i) ≡ true
unfolding value_fits
value-least s zero e = sym (least-is s 0) ∙ e
value-least s (suc i) e = sym (least-is s (suc i)) ∙ and_left (at_most (whole_of 0 0) (value_at s (suc i))) (at_most (value_at s (suc i)) (value_at s i)) e

pub value-falls : (s : List Float) (i : ℕ) → value_fits s (suc i) ≡ true → le_z (number_z s (suc i)) (number_z s i) ≡ true
unfolding value_fits
value-falls s i e = sym (falls-is s i) ∙ and_right (at_most (whole_of 0 0) (value_at s (suc i))) (at_most (value_at s (suc i)) (value_at s i)) e

pub values-hold : (s : List Float) (k : ℕ) → ((i : ℕ) → suc i < k → le_z (number_z s (suc i)) (number_z s i) ≡ true) → ((i : ℕ) → i < k → le_z (pos 0) (number_z s i) ≡ true)
    → (i : ℕ) → i < k → value_fits s i ≡ true
unfolding value_fits
values-hold s k f g zero h = least-is s 0 ∙ g 0 h
values-hold s k f g (suc i) h = ap₂ (λ (x y : Bool). x && y) (least-is s (suc i) ∙ g (suc i) h) (falls-is s i ∙ f i h)
