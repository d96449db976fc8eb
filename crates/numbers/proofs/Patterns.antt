-- The floats of binary64 by their bit patterns, and by their sizes in units of 2 ^ -1074. Assumes nothing.
use mathlib.Core.Path.{◌≡◌, refl, sym, ap, ◌∙◌, subst}
use mathlib.Core.Bool.{Bool, true, false, ◌&&◌, cond, true≢false}
use Prim.Native.Nat.{ℕ, zero, suc, ◌+◌, ◌-◌, ◌*◌, ◌/◌, ◌%◌, ◌^◌, ◌≤◌, ◌<◌}
use native.Mathlib.Nat.{not-le_of_lt, mul_assoc, mul-one, mul-div_cancel, mul_right_comm, mul-lt-mul_of_pos_right, zero-mul, lt_of_not-le, div-one, div-lt_iff_lt-mul}
use native.Mathlib.Decide.{dec_le}
use native.Mathlib.Omega.{arith}
use lib.IntN.{ℤ, pos, negsuc}
use lib.Dec.{T, leb, ltb, eqb, leb→le, ltb→lt, eqb→eq, not_T}
use lib.Pow.{pow-add, pow_pos, pow-lt}
use lib.Ieee.{Float, nan, inf, fin, binary64, up, down, odd, fits, of_fields, of_bits}
use lib.Ieee.Bits.{is_false, cond_no}
use lib.Ieee.Digits.{back}
use lib.Ieee.Fits.{down_pos, and_l, and_r}
use lib.Ieee.Exact.{HasValue, odd_sign}
use Rattle.numbers.specs.Root.{units_of, number}
use Rattle.numbers.specs.Steps.{digits, shift, normal_size}

-- ---- the float that a pattern stands for
of_bits_is : (b : ℕ) → of_bits binary64 b ≡ of_fields binary64 (leb (2 ^ 63) b) (b % 2 ^ 63 / 2 ^ 52) (b % 2 ^ 52)
unfolding of_bits
of_bits_is b = refl

no_sign : (b : ℕ) → b < 2 ^ 63 → leb (2 ^ 63) b ≡ false
no_sign b h = is_false (leb (2 ^ 63) b) (not_T (leb (2 ^ 63) b) (λ (u : T (leb (2 ^ 63) b)). not-le_of_lt h (leb→le (2 ^ 63) b u)))

under_ones : (x t : ℕ) → suc x < 2047 → of_fields binary64 false (suc x) t ≡ odd 53 false (2 ^ 52 + t) x 1074
unfolding of_fields
under_ones x t h =
    cond_no (eqb (suc x) 2047) (cond (eqb t 0) (inf false) nan) (odd 53 false (2 ^ 52 + t) x 1074) (not_T (eqb (suc x) 2047) (λ (u : T (eqb (suc x) 2047)). differ (eqb→eq (suc x) 2047 u)))
  where
    differ : suc x ≡ 2047 → ⊥
    differ e = omega arith

at_zero : (t : ℕ) → of_fields binary64 false 0 t ≡ odd 53 false t 0 1074
unfolding of_fields
at_zero t = refl

pub normal-is : (b : ℕ) → 2 ^ 52 ≤ b → b < 2047 * 2 ^ 52 → of_bits binary64 b ≡ odd 53 false (digits b) (shift b) 1074
normal-is b h k =
    let f : b % 2 ^ 63 / 2 ^ 52 ≡ suc (shift b) = omega arith in
    of_bits_is b
    ∙ ap (λ (s : Bool). of_fields binary64 s (b % 2 ^ 63 / 2 ^ 52) (b % 2 ^ 52)) (no_sign b (omega arith))
    ∙ ap (λ (x : ℕ). of_fields binary64 false x (b % 2 ^ 52)) f
    ∙ under_ones (shift b) (b % 2 ^ 52) (omega arith)

pub small_is : (b : ℕ) → b < 2 ^ 52 → of_bits binary64 b ≡ odd 53 false b 0 1074
small_is b h =
    let f : b % 2 ^ 63 / 2 ^ 52 ≡ 0 = omega arith in
    let g : b % 2 ^ 52 ≡ b = omega arith in
    of_bits_is b
    ∙ ap (λ (s : Bool). of_fields binary64 s (b % 2 ^ 63 / 2 ^ 52) (b % 2 ^ 52)) (no_sign b (omega arith))
    ∙ ap (λ (x : ℕ). of_fields binary64 false x (b % 2 ^ 52)) f
    ∙ ap (λ (t : ℕ). of_fields binary64 false 0 t) g
    ∙ at_zero b

-- ---- sizes
pub size_is : (x : Float) (s : Bool) (a : ℕ) → HasValue x s a (2 ^ 1074) → units_of x ≡ a
unfolding units_of
size_is (fin t m e) s a v = ap (λ (z : ℕ). z / down e) v.1 ∙ mul-div_cancel a (down_pos e)
size_is nan s a v = elim v [ ]
size_is (inf _) s a v = elim v [ ]

pub number_is : (x : Float) (a : ℕ) → HasValue x false a (2 ^ 1074) → T (fits binary64 x) → T (number x)
unfolding number
number_is (fin true m e) a v f = absurd (true≢false v.0)
number_is (fin false m e) a v f = f
number_is nan a v f = elim v [ ]
number_is (inf _) a v f = elim v [ ]

odd-size : (q k : ℕ) → units_of (odd 53 false q k 1074) ≡ q * 2 ^ k
odd-size q k = size_is (odd 53 false q k 1074) false (q * 2 ^ k) (odd_sign 53 false q k 1074)

pub normal-size : (b : ℕ) → 2 ^ 52 ≤ b → b < 2047 * 2 ^ 52 → units_of (of_bits binary64 b) ≡ normal_size b
normal-size b h k = ap units_of (normal-is b h k) ∙ odd-size (digits b) (shift b)

pub small_size : (b : ℕ) → b < 2 ^ 52 → units_of (of_bits binary64 b) ≡ b
small_size b h = ap units_of (small_is b h) ∙ odd-size b 0 ∙ mul-one b

pub normal-number : (b : ℕ) → 2 ^ 52 ≤ b → b < 2047 * 2 ^ 52 → T (fits binary64 (of_bits binary64 b)) → T (number (of_bits binary64 b))
normal-number b h k f =
    number_is (of_bits binary64 b) (normal_size b) (subst (λ (x : Float). HasValue x false (normal_size b) (2 ^ 1074)) (sym (normal-is b h k)) (odd_sign 53 false (digits b) (shift b) 1074)) f

-- ---- each float is a number of 53 digits, moved up
abbrev Moved : ℕ → Type 0
Moved n = (m : ℕ) × (j : ℕ) × (m < 2 ^ 53) × (n ≡ m * 2 ^ j)

moved-pos : (m k : ℕ) → m * 2 ^ k * 2 ^ 1074 / 1 ≡ m * 2 ^ (k + 1074)
moved-pos m k = div-one (m * 2 ^ k * 2 ^ 1074) ∙ mul_assoc m (2 ^ k) (2 ^ 1074) ∙ ap (λ (z : ℕ). m * z) (sym (pow-add 2 k 1074))

moved-neg : (m d : ℕ) → d ≤ 1074 → m * 1 * 2 ^ 1074 / 2 ^ d ≡ m * 2 ^ (1074 - d)
moved-neg m d h =
    ap (λ (z : ℕ). z * 2 ^ 1074 / 2 ^ d) (mul-one m)
    ∙ ap (λ (z : ℕ). m * 2 ^ z / 2 ^ d) (sym (back 1074 d h))
    ∙ ap (λ (z : ℕ). m * z / 2 ^ d) (pow-add 2 (1074 - d) d)
    ∙ ap (λ (z : ℕ). z / 2 ^ d) (sym (mul_assoc m (2 ^ (1074 - d)) (2 ^ d)))
    ∙ mul-div_cancel (m * 2 ^ (1074 - d)) (pow_pos d)

depth : (d : ℕ) → 2 ^ d ≤ 2 ^ 1074 → d ≤ 1074
depth d h = go (dec_le d 1074)
  where
    go : Dec (d ≤ 1074) → d ≤ 1074
    go (yes k) = k
    go (no f) = absurd (not-le_of_lt (pow-lt (lt_of_not-le f)) h)

moved_at : (m : ℕ) (e : ℤ) → down e ≤ 2 ^ 1074 → (j : ℕ) × (m * up e * 2 ^ 1074 / down e ≡ m * 2 ^ j)
moved_at m (pos k) d = (k + 1074, moved-pos m k)
moved_at m (negsuc k) d = (1074 - suc k, moved-neg m (suc k) (depth (suc k) d))

-- the parts of `fits`
module _ (m : ℕ) (e : ℤ) (f : T (fits binary64 (fin false (suc m) e))) where
  abbrev A : Bool
  A = eqb (suc m % 2) 1

  abbrev B : Bool
  B = ltb (suc m) (2 ^ 53)

  abbrev C : Bool
  C = leb (down e) (2 ^ 1074)

  abbrev D : Bool
  D = ltb (suc m * up e) (2 ^ 1024 * down e)

  few-digits : suc m < 2 ^ 53
  unfolding fits
  few-digits = ltb→lt (suc m) (2 ^ 53) (and_r A B (and_l (A && B) C (and_l (A && B && C) D f)))

  not-deep : down e ≤ 2 ^ 1074
  unfolding fits
  not-deep = leb→le (down e) (2 ^ 1074) (and_r (A && B) C (and_l (A && B && C) D f))

  not-high : suc m * up e < 2 ^ 1024 * down e
  unfolding fits
  not-high = ltb→lt (suc m * up e) (2 ^ 1024 * down e) (and_r (A && B && C) D f)

  pub moved-suc : (j : ℕ) × (suc m < 2 ^ 53) × (units_of (fin false (suc m) e) ≡ suc m * 2 ^ j)
  unfolding units_of
  moved-suc = let v = moved_at (suc m) e not-deep in (v.0, few-digits, v.1)

  pub size-lt : units_of (fin false (suc m) e) < 2 ^ 2098
  unfolding units_of
  size-lt =
      (div-lt_iff_lt-mul (down_pos e)).1
      (subst (λ (z : ℕ). suc m * up e * 2 ^ 1074 < z) (mul_right_comm (2 ^ 1024) (down e) (2 ^ 1074)) (mul-lt-mul_of_pos_right not-high (pow_pos 1074)))

pub moved : (y : Float) → T (number y) → Moved (units_of y)
unfolding units_of number
moved (fin false zero e) t = (0, 0, omega arith, ap (λ (z : ℕ). z * 2 ^ 1074 / down e) (zero-mul (up e)) ∙ ap (λ (z : ℕ). z / down e) (sym (zero-mul (down e))) ∙ mul-div_cancel 0 (down_pos e))
moved (fin false (suc m) e) t = let v = moved-suc m e t in (suc m, v.0, v.1, v.2)
moved (fin true m e) t = absurd t
moved nan t = absurd t
moved (inf s) t = absurd t
