-- What a guess at the root is off by, worked out in halves of 26 digits so that each step fits 64 bits, and the nearest whole number from it. Assumes nothing.
use mathlib.Core.Path.{◌≡◌, sym, ap, subst}
use mathlib.Core.Bool.{Bool, true, not, false≢true}
use Prim.Native.Nat.{ℕ, ◌+◌, ◌-◌, ◌*◌, ◌/◌, ◌%◌, ◌^◌, ◌≤◌, ◌<◌}
use native.Mathlib.Nat.{mul-mul-mul_comm, mul_right_comm, mul-le-mul, lt_of_not-le}
use native.Mathlib.Decide.{dec_le}
use native.Mathlib.Omega.{arith}
use lib.Dec.{T, ltb, ltb→lt, not_T}
use lib.Ieee.{Float, nan, inf, fin, binary64, nan_bits, is_nan, le, lt, eq}
use lib.Ieee.Bits.{nan_bits_above}
use Rattle.numbers.specs.Steps.{NearestWhole}
use Rattle.numbers.proofs.Digits.{square-add, square-next, at_least, at_most}

abbrev pub hi : ℕ → ℕ
hi q = q / 2 ^ 26

abbrev pub lo : ℕ → ℕ
lo q = q % 2 ^ 26

halves : (q : ℕ) → q * q ≡ hi q * hi q * 2 ^ 52 + hi q * lo q * 2 ^ 27 + lo q * lo q
halves q =
    let H = hi q * 2 ^ 26 in
    let e : q ≡ H + lo q = omega arith in
    let s : q * q ≡ (H + lo q) * (H + lo q) = ap (λ (z : ℕ). z * z) e in
    let a : H * H ≡ hi q * hi q * 2 ^ 52 = mul-mul-mul_comm (hi q) (2 ^ 26) (hi q) (2 ^ 26) in
    let b : H * lo q ≡ hi q * lo q * 2 ^ 26 = mul_right_comm (hi q) (2 ^ 26) (lo q) in
    omega (arith, square-add H (lo q))

pub product-fits : (a b : ℕ) → a < 2 ^ 27 → b < 2 ^ 27 → a * b < 2 ^ 64
product-fits a b h k =
    let l : a ≤ 2 ^ 27 = omega arith in
    let m : b ≤ 2 ^ 27 = omega arith in
    let p : a * b ≤ 2 ^ 27 * 2 ^ 27 = mul-le-mul l m in
    omega arith

-- n * 2 ^ 52 - q * q + 2 ^ 54
abbrev pub off : ℕ → ℕ → ℕ
off n q = ((n + 4 - hi q * hi q) * 2 ^ 25 - hi q * lo q) * 2 ^ 27 - lo q * lo q

-- ---- q + 1, q or q - 1, by w
abbrev pub is_up : ℕ → ℕ → ℕ
is_up w q = (2 ^ 63 + w - (2 ^ 54 + 1 + q)) / 2 ^ 63

abbrev pub not-down : ℕ → ℕ → ℕ
not-down w q = (2 ^ 63 + w + q - (2 ^ 54 + 1)) / 2 ^ 63

abbrev pub step : ℕ → ℕ → ℕ
step w q = q + is_up w q + not-down w q - 1

plus_one : (q a b : ℕ) → a ≡ 1 → b ≡ 1 → q + a + b - 1 ≡ q + 1
plus_one q a b e f = omega arith

plus_none : (q a b : ℕ) → a ≡ 0 → b ≡ 1 → q + a + b - 1 ≡ q
plus_none q a b e f = omega arith

minus_one : (q a b : ℕ) → a ≡ 0 → b ≡ 0 → q + a + b - 1 ≡ q - 1
minus_one q a b e f = omega arith

step-up : (w q : ℕ) → q < 2 ^ 53 → 2 ^ 54 + q < w → w ≤ 2 ^ 54 + 3 * q → step w q ≡ q + 1
step-up w q m h k = plus_one q (is_up w q) (not-down w q) (omega arith) (omega arith)

step_down : (w q : ℕ) → q < 2 ^ 53 → w + q ≤ 2 ^ 54 → step w q ≡ q - 1
step_down w q m h = minus_one q (is_up w q) (not-down w q) (omega arith) (omega arith)

step-none : (w q : ℕ) → q < 2 ^ 53 → w ≤ 2 ^ 54 + q → 2 ^ 54 < w + q → step w q ≡ q
step-none w q m h k = plus_none q (is_up w q) (not-down w q) (omega arith) (omega arith)

module _ (n q : ℕ) (least : 2 ^ 52 ≤ n) (most : n < 2 ^ 54 - 1) (q-least : 2 ^ 52 ≤ q) (a : hi q * hi q ≤ n + 4) (b : hi q * lo q ≤ (n + 4 - hi q * hi q) * 2 ^ 25) (c : lo q * lo q ≤ ((n + 4 - hi q * hi q) * 2 ^ 25 - hi q * lo q) * 2 ^ 27) where
  off-is : off n q + q * q ≡ n * 2 ^ 52 + 2 ^ 54
  off-is = omega (arith, halves q)

  is-nearest : (r : ℕ) → n * 2 ^ 52 ≤ r * r + r → r * r < n * 2 ^ 52 + r → NearestWhole (n * 2 ^ 52) r
  is-nearest r above below = record { least = at_least n r least most above; most = at_most n r least most above below; above = above; below = below }

  mend-up : 2 ^ 54 + q < off n q → off n q ≤ 2 ^ 54 + 3 * q → NearestWhole (n * 2 ^ 52) (q + 1)
  mend-up h k = is-nearest (q + 1) (omega (arith, off-is, square-next q)) (omega (arith, off-is, square-next q))

  mend-down : off n q + q ≤ 2 ^ 54 → 2 ^ 54 + 2 < off n q + 3 * q → NearestWhole (n * 2 ^ 52) (q - 1)
  mend-down h k =
      let p = q - 1 in
      let e : q ≡ p + 1 = omega arith in
      let s : q * q ≡ (p + 1) * (p + 1) = ap (λ (z : ℕ). z * z) e in
      is-nearest p (omega (arith, off-is, square-next p)) (omega (arith, off-is, square-next p))

  mend-none : off n q ≤ 2 ^ 54 + q → 2 ^ 54 < off n q + q → NearestWhole (n * 2 ^ 52) q
  mend-none h k = is-nearest q (omega (arith, off-is)) (omega (arith, off-is))

  -- one of the three
  pub mend : q < 2 ^ 53 → off n q ≤ 2 ^ 54 + 3 * q → 2 ^ 54 + 2 < off n q + 3 * q → NearestWhole (n * 2 ^ 52) (step (off n q) q)
  mend q-most h k = go (dec_le (off n q) (2 ^ 54 + q)) (dec_le (off n q + q) (2 ^ 54))
    where
      go : Dec (off n q ≤ 2 ^ 54 + q) → Dec (off n q + q ≤ 2 ^ 54) → NearestWhole (n * 2 ^ 52) (step (off n q) q)
      go (no x) y = subst (λ (r : ℕ). NearestWhole (n * 2 ^ 52) r) (sym (step-up (off n q) q q-most (lt_of_not-le x) h)) (mend-up (lt_of_not-le x) h)
      go (yes x) (yes y) = subst (λ (r : ℕ). NearestWhole (n * 2 ^ 52) r) (sym (step_down (off n q) q q-most y)) (mend-down y k)
      go (yes x) (no y) = subst (λ (r : ℕ). NearestWhole (n * 2 ^ 52) r) (sym (step-none (off n q) q q-most x (lt_of_not-le y))) (mend-none x (lt_of_not-le y))

-- ---- bits that are no NaN's
pub bits-no-nan : (b : ℕ) → b < 2047 * 2 ^ 52 → T (not (nan_bits binary64 b))
bits-no-nan b h =
    subst (λ (t : Bool). T (not t)) (sym (nan_bits_above binary64 b))
    (not_T (ltb (2047 * 2 ^ 52) (b % 2 ^ 63)) (λ t. absurd (omega (arith, ltb→lt (2047 * 2 ^ 52) (b % 2 ^ 63) t))))

-- what is at least another float is no NaN
pub le-no-nan : (x y : Float) → le x y ≡ true → T (not (is_nan y))
unfolding le lt eq is_nan
le-no-nan nan nan h = absurd (false≢true h)
le-no-nan (inf s) nan h = absurd (false≢true h)
le-no-nan (fin s m e) nan h = absurd (false≢true h)
le-no-nan x (inf s) h = tt
le-no-nan x (fin s m e) h = tt
