-- What a reader may want to know of this crate's definitions. Assumes nothing.
use mathlib.Core.Path.{◌≡◌, refl, sym, ap, ap₂, ◌∙◌}
use mathlib.Core.Bool.{Bool, cond, ◌&&◌}
use mathlib.Core.List.{List}
use Prim.Native.Nat.{ℕ, zero, suc, ◌+◌, ◌-◌, ◌*◌, ◌/◌, ◌%◌, ◌^◌, ◌<◌}
use native.Mathlib.Nat.{mul_comm, add_comm}
use native.Mathlib.Decide.{ℕ_discrete}
use native.Mathlib.Omega.{arith}
use lib.Arith.{digits_div, digits_mod}
use lib.Dec.{leb, eqb}
use lib.Ieee.{Float}
use borrow.Author.Tests.{eq-eqb, ne_eqb}
use Rattle.countersign_sums.specs.declared.Whole.{Whole}
use Rattle.countersign_sums.specs.declared.Gaussian.{Gaussian}
use Rattle.countersign_sums.specs.Wholes.{whole_of, plus_of, times_of, opposite_of, apart}
use Rattle.countersign_sums.specs.Gaussians.{gaussian_of, sum_of, difference_of, product_of, conjugate_of, times_within}
use Rattle.countersign_cells.specs.Cells.{whole_cell}
use Rattle.countersign_grams.specs.Grams.{inner, inners_of, identity_at, inner_gap, inner_fits, gram_fits}

times-comm : (a b : Whole) → times_of a b ≡ times_of b a
times-comm a b =
    let p = mul_comm a.over b.over in
    let q = mul_comm a.under b.under in
    let r = mul_comm a.over b.under in
    let s = mul_comm a.under b.over in
    ap₂ whole_of (omega (arith, p, q)) (omega (arith, r, s))

times-opposite : (a b : Whole) → times_of (opposite_of a) b ≡ opposite_of (times_of a b)
times-opposite a b = ap₂ whole_of (omega arith) (omega arith)

plus_comm : (a b : Whole) → plus_of a b ≡ plus_of b a
plus_comm a b = ap₂ whole_of (omega arith) (omega arith)

-- the opposite of one factor, either way round
opposite-swap : (a b : Whole) → times_of (opposite_of b) a ≡ times_of (opposite_of a) b
opposite-swap a b = times-opposite b a ∙ ap opposite_of (times-comm b a) ∙ sym (times-opposite a b)

product-swap : (a b : Gaussian) → product_of (conjugate_of b) a ≡ conjugate_of (product_of (conjugate_of a) b)
unfolding product_of conjugate_of
product-swap a b =
    ap₂ gaussian_of
    (ap₂ (λ (x y : Whole). plus_of x (opposite_of y)) (times-comm b.re a.re) (opposite-swap a.im b.im))
    (ap₂ plus_of
    (times-comm b.re a.im ∙ ap opposite_of (sym (times-opposite a.im b.re)))
    (times-opposite b.im a.re ∙ ap opposite_of (times-comm b.im a.re))
    ∙ plus_comm (opposite_of (times_of (opposite_of a.im) b.re)) (opposite_of (times_of a.re b.im)))

inner-swap : (x : List Float) (len p q i : ℕ) → inner x len q p i ≡ conjugate_of (inner x len p q i)
unfolding inner
inner-swap x len p q i = product-swap (whole_cell x (p * len + i)) (whole_cell x (q * len + i))

sum-swap : (a b : Gaussian) → sum_of (conjugate_of a) (conjugate_of b) ≡ conjugate_of (sum_of a b)
unfolding sum_of conjugate_of
sum-swap a b = refl

inners-swap : (x : List Float) (len p q i : ℕ) → inners_of x len q p i ≡ conjugate_of (inners_of x len p q i)
unfolding inners_of conjugate_of
inners-swap x len p q zero = refl
inners-swap x len p q (suc i) = ap₂ sum_of (inners-swap x len p q i) (inner-swap x len p q i) ∙ sum-swap (inners_of x len p q i) (inner x len p q i)

eqb_swap : (p q : ℕ) → eqb q p ≡ eqb p q
eqb_swap p q = go (ℕ_discrete p q)
  where
    go : Dec (p ≡ q) → eqb q p ≡ eqb p q
    go (yes e) = eq-eqb q p (sym e) ∙ sym (eq-eqb p q e)
    go (no n) = ne_eqb q p (λ e. n (sym e)) ∙ sym (ne_eqb p q n)

identity-swap : (p q : ℕ) → identity_at q p ≡ conjugate_of (identity_at p q)
unfolding identity_at conjugate_of
identity-swap p q = ap (λ (b : Bool). gaussian_of (whole_of (cond b (2 ^ 36) 0) 0) (whole_of 0 0)) (eqb_swap p q)

difference-swap : (a b : Gaussian) → difference_of (conjugate_of a) (conjugate_of b) ≡ conjugate_of (difference_of a b)
unfolding difference_of conjugate_of
difference-swap a b = refl

-- The inner product of the vectors q and p, less the identity's entry, is the conjugate of that of p and q.
pub gap-swap : (x : List Float) (len p q : ℕ) → inner_gap x len q p ≡ conjugate_of (inner_gap x len p q)
unfolding inner_gap
gap-swap x len p q = ap₂ difference_of (inners-swap x len p q len) (identity-swap p q) ∙ difference-swap (inners_of x len p q len) (identity_at p q)

within-swap : (a : Gaussian) (k t : ℕ) → times_within (conjugate_of a) k t ≡ times_within a k t
unfolding times_within conjugate_of
within-swap a k t =
    ap (λ (x : ℕ). leb (apart a.re * k) t && leb (x * k) t) (add_comm (a.im.under - a.im.over) (a.im.over - a.im.under))

-- The cells (p, q) and (q, p) hold or fail together. So a test's first failing cell has the same number row after row
-- and column after column, and with the first or the second vector conjugated.
pub fits-swap : (x : List Float) (len t p q : ℕ) → inner_fits x len t q p ≡ inner_fits x len t p q
unfolding inner_fits
fits-swap x len t p q = ap (λ (g : Gaussian). times_within g (2 ^ 18) t) (gap-swap x len p q) ∙ within-swap (inner_gap x len p q) (2 ^ 18) t

-- Cell c is of the vectors c / k and c % k.
pub gram-at : (x : List Float) (len k t c : ℕ) → gram_fits x len k t c ≡ inner_fits x len t (c / k) (c % k)
unfolding gram_fits
gram-at x len k t c = refl

-- So cell p * k + q is of the vectors p and q.
pub at-digits : (x : List Float) (len k t p q : ℕ) → q < k → gram_fits x len k t (p * k + q) ≡ inner_fits x len t p q
at-digits x len k t p q h = gram-at x len k t (p * k + q) ∙ ap₂ (λ (a b : ℕ). inner_fits x len t a b) (digits_div p h) (digits_mod p h)

-- The same of the cells p * k + q and q * k + p.
pub gram-swap : (x : List Float) (len k t p q : ℕ) → p < k → q < k → gram_fits x len k t (p * k + q) ≡ gram_fits x len k t (q * k + p)
gram-swap x len k t p q hp hq = at-digits x len k t p q hq ∙ sym (fits-swap x len t p q) ∙ sym (at-digits x len k t q p hp)
