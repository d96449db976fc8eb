-- Laws of the first failing cell: a step of the scan, its ends, and what the result says of each cell. Assumes
-- nothing.
use mathlib.Core.Path.{◌≡◌, refl, sym, ap, ap₂, subst, ◌∙◌}
use mathlib.Core.Bool.{Bool, true, false, cond, ◌&&◌}
use mathlib.Core.Logic.{⊎_elim}
use mathlib.Core.List.{List}
use Prim.Native.Nat.{ℕ, zero, suc, ◌+◌, ◌-◌, ◌*◌, ◌/◌, ◌%◌, ◌^◌, ◌≤◌, ◌<◌}
use native.Mathlib.Numerals.{add-one}
use native.Mathlib.Nat.{eq-or-lt_of_le, add-mul, mul-le-mul_right, div-add-mod', mod-lt}
use native.Mathlib.Omega.{arith}
use lib.Ieee.{Float}
use Rattle.std.proofs.Common.{Some, None}
use Rattle.countersign_sums.specs.declared.Whole.{Whole}
use Rattle.countersign_sums.specs.Wholes.{whole_of, at_most, weight}
use Rattle.countersign_cells.specs.Cells.{value_at}
use Rattle.countersign_cells.proofs.CellBounds.{value-small}
use Rattle.countersign_grams.proofs.Bounds.{some, first-in}
use Rattle.countersign_scans.specs.Scans.{first_fail, FirstFail, value_fits}

-- ---- a scan of n cells, at c

left-more : (n c : ℕ) → c < n → n - c ≡ suc (n - (c + 1))
left-more n c h = omega arith

left-none : (n c : ℕ) → n ≤ c → n - c ≡ 0
left-none n c h = omega arith

step : (f : ℕ → Bool) (i left : ℕ) (b : Bool) → f i ≡ b → first_fail f i (suc left) ≡ cond b (first_fail f (suc i) left) i
unfolding first_fail
step f i left b e = ap (λ (x : Bool). cond x (first_fail f (suc i) left) i) e

last : (f : ℕ → Bool) (i : ℕ) → first_fail f i 0 ≡ i
unfolding first_fail
last f i = refl

pub scan-begin : (f : ℕ → Bool) (n : ℕ) → first_fail f 0 n ≡ first_fail f 0 (n - 0)
scan-begin f n = let e : n ≡ n - 0 = omega arith in ap (first_fail f 0) e

pub scan_good : (f : ℕ → Bool) (n c : ℕ) → first_fail f 0 n ≡ first_fail f c (n - c) → c < n → f c ≡ true → first_fail f 0 n ≡ first_fail f (c + 1) (n - (c + 1))
scan_good f n c g h e =
    g ∙ ap (first_fail f c) (left-more n c h) ∙ step f c (n - (c + 1)) true e ∙ ap (λ (x : ℕ). first_fail f x (n - (c + 1))) (sym (add-one c))

scan-bad : (f : ℕ → Bool) (n c : ℕ) → first_fail f 0 n ≡ first_fail f c (n - c) → c < n → f c ≡ false → c ≡ first_fail f 0 n
scan-bad f n c g h e = sym (g ∙ ap (first_fail f c) (left-more n c h) ∙ step f c (n - (c + 1)) false e)

scan-end : (f : ℕ → Bool) (n c : ℕ) → first_fail f 0 n ≡ first_fail f c (n - c) → n ≤ c → c ≡ first_fail f 0 n
scan-end f n c g h = sym (g ∙ ap (first_fail f c) (left-none n c h) ∙ last f c)

pub scan-found : (f : ℕ → Bool) (n c : ℕ) {b : Bool} → first_fail f 0 n ≡ first_fail f c (n - c) → c < n → b ≡ f c → b ≡ false → FirstFail f n (Some c)
scan-found f n c g h e d =
    let r = scan-bad f n c g h (sym e ∙ d) in
    (omega (arith, r, h), r)

pub scan-none : (f : ℕ → Bool) (n c : ℕ) → first_fail f 0 n ≡ first_fail f c (n - c) → n ≤ c → FirstFail f n None
scan-none f n c g h k = omega (arith, k, scan-end f n c g h)

-- ---- what the result says

cond-least : (b : Bool) (i x : ℕ) → suc i ≤ x → i ≤ cond b x i
cond-least true i x h = omega arith
cond-least false i x h = omega arith

cond-most : (b : Bool) (i left x : ℕ) → x ≤ suc i + left → cond b x i ≤ i + suc left
cond-most true i left x h = omega arith
cond-most false i left x h = omega arith

pub fail-least : (f : ℕ → Bool) (i left : ℕ) → i ≤ first_fail f i left
unfolding first_fail
fail-least f i zero = omega arith
fail-least f i (suc left) = cond-least (f i) i (first_fail f (suc i) left) (fail-least f (suc i) left)

pub fail-most : (f : ℕ → Bool) (i left : ℕ) → first_fail f i left ≤ i + left
unfolding first_fail
fail-most f i zero = omega arith
fail-most f i (suc left) = cond-most (f i) i left (first_fail f (suc i) left) (fail-most f (suc i) left)

cond-before : (f : ℕ → Bool) (i c x : ℕ) (b : Bool) → f i ≡ b → i ≤ c → (i < c → c < x → f c ≡ true) → c < cond b x i → f c ≡ true
cond-before f i c x true e l r k = ⊎_elim (λ (d : i ≡ c). subst (λ (y : ℕ). f y ≡ true) d e) (λ (d : i < c). r d k) (eq-or-lt_of_le l)
cond-before f i c x false e l r k = absurd (omega arith)

-- the test holds at every cell before it
pub before-holds : (f : ℕ → Bool) (i left c : ℕ) → i ≤ c → c < first_fail f i left → f c ≡ true
unfolding first_fail
before-holds f i zero c l h = absurd (omega arith)
before-holds f i (suc left) c l h = cond-before f i c (first_fail f (suc i) left) (f i) refl l (λ d k. before-holds f (suc i) left c d k) h

cond-there : (f : ℕ → Bool) (i left x : ℕ) (b : Bool) → f i ≡ b → (x < suc i + left → f x ≡ false) → cond b x i < i + suc left → f (cond b x i) ≡ false
cond-there f i left x true e r k = r (omega arith)
cond-there f i left x false e r k = e

-- and fails at it, unless it lies past the last
pub there-fails : (f : ℕ → Bool) (i left : ℕ) → first_fail f i left < i + left → f (first_fail f i left) ≡ false
unfolding first_fail
there-fails f i zero h = absurd (omega arith)
there-fails f i (suc left) h = cond-there f i left (first_fail f (suc i) left) (f i) refl (λ k. there-fails f (suc i) left k) h

-- where it holds at every cell the result lies past the last
holds-from : (f : ℕ → Bool) (n : ℕ) → ((c : ℕ) → c < n → f c ≡ true) → (left i : ℕ) → i + left ≡ n → first_fail f i left ≡ n
holds-from f n h zero i e = last f i ∙ omega arith
holds-from f n h (suc left) i e = step f i left true (h i (omega arith)) ∙ holds-from f n h left (suc i) (omega arith)

pub all_hold : (f : ℕ → Bool) (n : ℕ) → ((c : ℕ) → c < n → f c ≡ true) → first_fail f 0 n ≡ n
all_hold f n h = holds-from f n h n 0 (omega arith)

-- ---- a matrix whose cells (p, q) and (q, p) hold or fail together

-- what was passed holds
pub passed-holds : (f : ℕ → Bool) (n c : ℕ) → first_fail f 0 n ≡ first_fail f c (n - c) → (d : ℕ) → d < c → f d ≡ true
passed-holds f n c g d h = before-holds f 0 n d (omega arith) (omega (arith, g, fail-least f c (n - c)))

module _ (f : ℕ → Bool) (k : ℕ) (swap : (p q : ℕ) → p < k → q < k → f (p * k + q) ≡ f (q * k + p)) where
  -- below the diagonal a cell holds where all before it do
  pub mirrored-holds : (n c : ℕ) → first_fail f 0 n ≡ first_fail f c (n - c) → c < k * k → c % k < c / k → f c ≡ true
  mirrored-holds n c g h l =
      let p = c / k in
      let q = c % k in
      let hp = first-in k c h in
      let e : p * k + q ≡ c = div-add-mod' c k in
      let below : q * k + p < c = omega (arith, e, hp, mul-le-mul_right {m = q + 1} {n = p} k (omega arith), add-mul q 1 k) in
      sym (ap f e) ∙ swap p q hp (mod-lt c (some k c h)) ∙ passed-holds f n c g (q * k + p) below

-- ---- the values

pub fits-first : (s : List Float) (i : ℕ) {x : Whole} {b : Bool} → i ≡ 0 → x ≡ value_at s i → b ≡ at_most (whole_of 0 0) x → b ≡ true → true ≡ value_fits s i
unfolding value_fits
fits-first s zero z e f g = sym g ∙ f ∙ ap (at_most (whole_of 0 0)) e
fits-first s (suc i) z e f g = absurd (omega arith)

pub fits-later : (s : List Float) (i : ℕ) {x y : Whole} {b d : Bool} → (i ≡ 0 → ⊥) → x ≡ value_at s i → b ≡ at_most (whole_of 0 0) x → b ≡ true → y ≡ value_at s (i - 1) → d ≡ at_most x y
    → d ≡ value_fits s i
unfolding value_fits
fits-later s zero n e f g h k = absurd (n refl)
fits-later s (suc i) n e f g h k =
    let z : suc i - 1 ≡ i = omega arith in
    k ∙ ap₂ at_most e (h ∙ ap (value_at s) z)
    ∙ ap (λ (c : Bool). c && at_most (value_at s (suc i)) (value_at s i)) (sym g ∙ f ∙ ap (at_most (whole_of 0 0)) e)

pub fits_below : (s : List Float) (i : ℕ) {x : Whole} {b : Bool} → x ≡ value_at s i → b ≡ at_most (whole_of 0 0) x → b ≡ false → false ≡ value_fits s i
unfolding value_fits
fits_below s zero e f g = sym g ∙ f ∙ ap (at_most (whole_of 0 0)) e
fits_below s (suc i) e f g =
    ap (λ (c : Bool). c && at_most (value_at s (suc i)) (value_at s i)) (sym g ∙ f ∙ ap (at_most (whole_of 0 0)) e)

pub value-fits-sum : (s : List Float) (i j : ℕ) {x y : Whole} → x ≡ value_at s i → y ≡ value_at s j → weight x + weight y < 2 ^ 64
value-fits-sum s i j e f = rw (e, f) (omega (arith, value-small s i, value-small s j))

pub value-fits-zero : (s : List Float) (i : ℕ) {x : Whole} → x ≡ value_at s i → weight (whole_of 0 0) + weight x < 2 ^ 64
value-fits-zero s i e = rw e (omega (arith, value-small s i))
