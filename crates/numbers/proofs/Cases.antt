-- `Sqrt x r` by the bits of x: each way through `sqrt`. Assumes nothing.
use mathlib.Core.Path.{◌≡◌, refl, sym, ap, ◌∙◌, subst}
use mathlib.Core.Bool.{Bool, true, false, not, cond, true≢false, false≢true}
use Prim.Native.Nat.{ℕ, zero, suc, ◌+◌, ◌-◌, ◌*◌, ◌/◌, ◌%◌, ◌^◌, ◌≤◌, ◌<◌}
use native.Mathlib.Nat.{zero-mul, mul-div_cancel, lt_of_not-le}
use native.Mathlib.Decide.{dec_le}
use native.Mathlib.Omega.{arith}
use lib.IntN.{ℤ}
use lib.Dec.{T, ltb, lt→ltb}
use lib.Pow.{pow_pos}
use lib.Arith.{lt_of_le-ne}
use lib.Ieee as Ieee
use lib.Ieee.{Float, nan, inf, fin, binary64, up, down, of_bits, to_bits, of_fields, odd, fits, is_nan, ne, nan_bits}
use lib.Ieee.Bits.{of_bits-to_bits, of_bits-fits, to_bits-lt, nan_bits_is, nan_bits_above, is_true}
use lib.Ieee.Compare.{differs_from_itself}
use lib.Ieee.Fits.{down_pos}
use Rattle.numbers.specs.Root.{units_of, number, squared, Nearest, Sqrt}
use Rattle.numbers.specs.Steps.{RootOf, RootBits, digits, shift, normal_size}
use Rattle.numbers.proofs.Halfway.{Between, nearer-above, nearer-below, whole-between, whole-edge}
use Rattle.numbers.proofs.Mending.{bits-no-nan}
use Rattle.numbers.proofs.Patterns.{normal-size, small_size, normal-number, moved}

-- ---- the bits by the constructors
plus-sign : (a b c : ℕ) → a + b + c ≡ a + (0 + b + c)
plus-sign a b c = omega arith

pub minus-bits : (m : ℕ) (e : ℤ) → to_bits binary64 (fin true m e) ≡ 2 ^ 63 + to_bits binary64 (fin false m e)
unfolding to_bits
minus-bits m e =
    let n = m * up e * 2 ^ 1074 / down e in
    let k = Ieee.size n - 53 in
    plus-sign (2 ^ 63) (k * 2 ^ 52) (n / 2 ^ k)

zero_bits : (s : Bool) (e : ℤ) → to_bits binary64 (fin s 0 e) ≡ cond s (2 ^ 63) 0 + 0 * 2 ^ 52 + 0
unfolding to_bits Ieee.size Ieee.span Ieee.climb
zero_bits s e =
    let h : 0 * up e * 2 ^ 1074 / down e ≡ 0 = ap (λ (z : ℕ). z * 2 ^ 1074 / down e) (zero-mul (up e)) ∙ ap (λ (z : ℕ). z / down e) (sym (zero-mul (down e))) ∙ mul-div_cancel 0 (down_pos e) in
    ap (λ (n : ℕ). cond s (2 ^ 63) 0 + (Ieee.size n - 53) * 2 ^ 52 + n / 2 ^ (Ieee.size n - 53)) h

-- a float with no minus sign has bits below 2 ^ 63
either-sign : (m : ℕ) (e : ℤ) → T (fits binary64 (fin false m e)) → T (fits binary64 (fin true m e))
unfolding fits
either-sign zero e f = f
either-sign (suc m) e f = f

pub plus-bits : (m : ℕ) (e : ℤ) → T (fits binary64 (fin false m e)) → to_bits binary64 (fin false m e) < 2 ^ 63
plus-bits m e f =
    let h : to_bits binary64 (fin true m e) < 2 * 2 ^ 63 = to_bits-lt binary64 (fin true m e) (either-sign m e f) in
    omega (arith, minus-bits m e)

-- ---- a NaN
pub of_nan : (x r : Float) → ne x x ≡ true → r ≡ nan → Sqrt x r
of_nan x r h e = subst (λ (y : Float). Sqrt y r) (sym (differs_from_itself x (subst T (sym h) tt))) e

pub no_nan : (x : Float) → ne x x ≡ false → T (not (is_nan x))
unfolding ne Ieee.eq is_nan
no_nan nan h = absurd (true≢false h)
no_nan (inf s) h = tt
no_nan (fin s m e) h = tt

-- ---- the bits say it: -0, +0, an infinity or a NaN
back : (x : Float) (b : ℕ) → T (fits binary64 x) → to_bits binary64 x ≡ b → x ≡ of_bits binary64 b
back x b f e = sym (of_bits-to_bits binary64 x f) ∙ ap (of_bits binary64) e

pub of-minus-zero : (x : Float) → T (fits binary64 x) → to_bits binary64 x ≡ 2 ^ 63 → Sqrt x x
unfolding of_bits of_fields odd
of-minus-zero x f e = subst (λ (y : Float). Sqrt y y) (sym (back x (2 ^ 63) f e)) refl

pub of_zero : (x : Float) → T (fits binary64 x) → to_bits binary64 x ≡ 0 → Sqrt x x
unfolding of_bits of_fields odd
of_zero x f e = subst (λ (y : Float). Sqrt y y) (sym (back x 0 f e)) refl

pub is-nan : (x : Float) → is_nan x ≡ true → x ≡ nan
unfolding is_nan
is-nan nan h = refl
is-nan (inf s) h = absurd (false≢true h)
is-nan (fin s m e) h = absurd (false≢true h)

pub of-infinity : (x : Float) → T (fits binary64 x) → to_bits binary64 x ≡ 2047 * 2 ^ 52 → Sqrt x x
unfolding of_bits of_fields
of-infinity x f e = subst (λ (y : Float). Sqrt y y) (sym (back x (2047 * 2 ^ 52) f e)) refl

-- a pattern above the infinity's, with no sign, is a NaN's
above-infinity : (x : Float) → T (fits binary64 x) → 2047 * 2 ^ 52 < to_bits binary64 x → to_bits binary64 x < 2 ^ 63 → x ≡ nan
above-infinity x f lo hi =
    let n = to_bits binary64 x in
    let t : ltb (2047 * 2 ^ 52) (n % 2 ^ 63) ≡ true = is_true (ltb (2047 * 2 ^ 52) (n % 2 ^ 63)) (lt→ltb (2047 * 2 ^ 52) (n % 2 ^ 63) (omega arith)) in
    is-nan x (ap is_nan (back x n f refl) ∙ sym (nan_bits_is binary64 n) ∙ nan_bits_above binary64 n ∙ t)

-- ---- a minus sign, and not -0
pub of_negative : (x r : Float) → T (fits binary64 x) → 2 ^ 63 < to_bits binary64 x → r ≡ nan → Sqrt x r
unfolding to_bits
of_negative nan r f h e = e
of_negative (inf true) r f h e = e
of_negative (inf false) r f h e = absurd (omega arith)
of_negative (fin true zero x) r f h e = absurd (omega (arith, zero_bits true x))
of_negative (fin true (suc m) x) r f h e = e
of_negative (fin false zero x) r f h e = absurd (omega (arith, plus-bits zero x f))
of_negative (fin false (suc m) x) r f h e = absurd (omega (arith, plus-bits (suc m) x f))

-- whatever else has bits above those of the infinity
pub of-rest : (x r : Float) → T (fits binary64 x) → 2047 * 2 ^ 52 ≤ to_bits binary64 x → (to_bits binary64 x ≡ 2047 * 2 ^ 52 → ⊥) → (to_bits binary64 x ≡ 2 ^ 63 → ⊥) → r ≡ nan → Sqrt x r
of-rest x r f lo a b e = go (dec_le (to_bits binary64 x) (2 ^ 63))
  where
    go : Dec (to_bits binary64 x ≤ 2 ^ 63) → Sqrt x r
    go (yes h) = subst (λ (y : Float). Sqrt y r) (sym (above-infinity x f (lt_of_le-ne lo (λ z. a (sym z))) (lt_of_le-ne h b))) e
    go (no h) = of_negative x r f (lt_of_not-le h) e

-- ---- a positive float
pub of_positive : (x r : Float) → T (fits binary64 x) → 0 < to_bits binary64 x → to_bits binary64 x < 2047 * 2 ^ 52 → Nearest x r → Sqrt x r
unfolding to_bits
of_positive nan r f lo hi n = absurd (omega arith)
of_positive (inf true) r f lo hi n = absurd (omega arith)
of_positive (inf false) r f lo hi n = absurd (omega arith)
of_positive (fin true zero x) r f lo hi n = absurd (omega (arith, minus-bits zero x))
of_positive (fin true (suc m) x) r f lo hi n = absurd (omega (arith, minus-bits (suc m) x))
of_positive (fin false zero x) r f lo hi n = absurd (omega (arith, zero_bits false x))
of_positive (fin false (suc m) x) r f lo hi n = n

-- a float of q * 2 ^ k units is the nearest to the root of x, if the root lies between the halfway points about it
pub nearest : (x r : Float) (q k : ℕ) → T (number r) → units_of r ≡ q * 2 ^ k → 2 ^ 52 ≤ q → Between (squared x) q (2 ^ k) → 2 ^ 52 * 2 ^ k * (2 ^ 52 * 2 ^ k) ≤ squared x → Nearest x r
nearest x r q k float is least half edge = record {
  float = float;
  above = λ y t h.
      let v = moved y t in
      let l : q * 2 ^ k < v.0 * 2 ^ v.1 = omega (arith, v.3) in
      rw (is, v.3) (nearer-above (squared x) q k least half edge v.0 v.1 v.2 l);
  below = λ y t h.
      let v = moved y t in
      let l : v.0 * 2 ^ v.1 < q * 2 ^ k = omega (arith, v.3) in
      rw (is, v.3) (nearer-below (squared x) q k least half edge v.0 v.1 v.2 l);
}

-- the bits r are those of the float nearest to the root of x
from_bits : (x : Float) (r : ℕ) → RootOf (squared x) r → Nearest x (of_bits binary64 r)
from_bits x r root =
    let w = root.nearest in
    let p = pow_pos (shift r) in
    nearest x (of_bits binary64 r) (digits r) (shift r)
    (normal-number r root.least root.most (of_bits-fits binary64 r))
    (normal-size r root.least root.most)
    w.least
    (subst (λ (n : ℕ). Between n (digits r) (2 ^ shift r)) root.scaled (whole-between root.a (digits r) (2 ^ shift r) p w))
    (subst (λ (n : ℕ). 2 ^ 52 * 2 ^ shift r * (2 ^ 52 * 2 ^ shift r) ≤ n) root.scaled (whole-edge root.a (digits r) (2 ^ shift r) p w root.large))

-- the square of the root by the bits of x
pub squared-small : (x : Float) → T (fits binary64 x) → to_bits binary64 x < 2 ^ 52 → squared x ≡ to_bits binary64 x * 2 ^ 1074
unfolding squared
squared-small x f h = ap (λ (z : ℕ). z * 2 ^ 1074) (ap units_of (back x (to_bits binary64 x) f refl) ∙ small_size (to_bits binary64 x) h)

pub squared-normal : (x : Float) → T (fits binary64 x) → 2 ^ 52 ≤ to_bits binary64 x → to_bits binary64 x < 2047 * 2 ^ 52 → squared x ≡ normal_size (to_bits binary64 x) * 2 ^ 1074
unfolding squared
squared-normal x f h k = ap (λ (z : ℕ). z * 2 ^ 1074) (ap units_of (back x (to_bits binary64 x) f refl) ∙ normal-size (to_bits binary64 x) h k)

pub of-root : (x : Float) (r : ℕ) → T (fits binary64 x) → 0 < to_bits binary64 x → to_bits binary64 x < 2047 * 2 ^ 52
    → (to_bits binary64 x < 2 ^ 52 → RootBits (to_bits binary64 x) r) → (2 ^ 52 ≤ to_bits binary64 x → RootBits (normal_size (to_bits binary64 x)) r) → Sqrt x (of_bits binary64 r)
of-root x r f lo hi small normal = of_positive x (of_bits binary64 r) f lo hi (from_bits x r (go (dec_le (2 ^ 52) (to_bits binary64 x))))
  where
    go : Dec (2 ^ 52 ≤ to_bits binary64 x) → RootOf (squared x) r
    go (yes h) = subst (λ (n : ℕ). RootOf n r) (sym (squared-normal x f h hi)) (normal h)
    go (no g) = subst (λ (n : ℕ). RootOf n r) (sym (squared-small x f (lt_of_not-le g))) (small (lt_of_not-le g))

-- the result's bits are no NaN's
pub root-most : (b r : ℕ) → (b < 2 ^ 52 → RootBits b r) → (2 ^ 52 ≤ b → RootBits (normal_size b) r) → r < 2047 * 2 ^ 52
root-most b r small normal = go (dec_le (2 ^ 52) b)
  where
    go : Dec (2 ^ 52 ≤ b) → r < 2047 * 2 ^ 52
    go (yes h) = (normal h).most
    go (no g) = (small (lt_of_not-le g)).most

pub root-no-nan : (b r : ℕ) → (b < 2 ^ 52 → RootBits b r) → (2 ^ 52 ≤ b → RootBits (normal_size b) r) → T (not (nan_bits binary64 r))
root-no-nan b r small normal = bits-no-nan r (root-most b r small normal)
