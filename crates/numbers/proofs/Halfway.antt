-- A number of 53 digits, q, moved up by k places, is nearer to the root of n than any other such number is, if the root lies between the halfway points below and above it (`Between`).
-- So it does where q is the whole number nearest to the root of a, and n is a * 4 ^ k. Nothing here is about floats. Assumes nothing.
use mathlib.Core.Path.{◌≡◌, sym, ap, ◌∙◌, subst}
use mathlib.Core.Logic.{◌⊎◌, inl, inr}
use Prim.Native.Nat.{ℕ, suc, ◌+◌, ◌-◌, ◌*◌, ◌^◌, ◌≤◌, ◌<◌}
use native.Mathlib.Nat.{mul_assoc, add-mul, mul-mul-mul_comm, mul-le-mul, mul-le-mul_left, mul-le-mul_right, mul-lt-mul_of_pos_right, lt_of_mul-lt-mul_right, mul-pos, lt_of_lt_of_le, lt_of_le_of_lt, le_of_lt, lt_of_not-le, eq-or-lt_of_le, pow-succ'}
use native.Mathlib.Decide.{dec_le}
use native.Mathlib.Omega.{arith}
use lib.Pow.{pow-add, pow_mono, pow_pos}
use lib.Ieee.Digits.{back}
use Rattle.numbers.specs.Steps.{NearestWhole}
use Rattle.numbers.proofs.Digits.{square-next, square-twice-next}

pub square_le : (u v : ℕ) → u ≤ v → u * u ≤ v * v
square_le u v h = mul-le-mul h h

pub square-lt : (u v : ℕ) → u < v → u * u < v * v
square-lt u v h = lt_of_le_of_lt (mul-le-mul_left u (le_of_lt h)) (mul-lt-mul_of_pos_right h (omega arith))

-- the root of n lies between the points halfway from q to q - 1 and to q + 1, in units of t
pub record Between (n q t : ℕ) : Type 0 where
  pub above : 4 * n < (q * 2 + 1) * t * ((q * 2 + 1) * t)
  pub below : (q * 2 - 1) * t * ((q * 2 - 1) * t) < 4 * n

-- a number of 53 digits, moved up, that is 2 ^ 52 * 2 ^ k or more is a multiple of 2 ^ k
grid : (m j k : ℕ) → m < 2 ^ 53 → 2 ^ 52 * 2 ^ k ≤ m * 2 ^ j → (c : ℕ) × (m * 2 ^ j ≡ c * 2 ^ k)
grid m j k small large = go (dec_le k j)
  where
    go : Dec (k ≤ j) → (c : ℕ) × (m * 2 ^ j ≡ c * 2 ^ k)
    go (yes h) = (m * 2 ^ (j - k), ap (λ (z : ℕ). m * 2 ^ z) (sym (back j k h)) ∙ ap (λ (z : ℕ). m * z) (pow-add 2 (j - k) k) ∙ sym (mul_assoc m (2 ^ (j - k)) (2 ^ k)))
    go (no f) =
        let p : 2 ^ suc j ≤ 2 ^ k = pow_mono (lt_of_not-le f) in
        let e : 2 ^ suc j ≡ 2 * 2 ^ j = pow-succ' 2 j in
        let l : m * 2 ^ j < 2 ^ 53 * 2 ^ j = mul-lt-mul_of_pos_right small (pow_pos j) in
        absurd (omega arith)

-- 2 ^ 52 is the least number of 53 digits, and below it the floats lie closer. The root is no less than it, by `edge`
module _ (n q k : ℕ) (least : 2 ^ 52 ≤ q) (half : Between n q (2 ^ k)) (edge : 2 ^ 52 * 2 ^ k * (2 ^ 52 * 2 ^ k) ≤ n) (m j : ℕ) (small : m < 2 ^ 53) where
  abbrev t : ℕ
  t = 2 ^ k

  at_least : 2 ^ 52 * t ≤ q * t
  at_least = mul-le-mul_right t least

  pub nearer-above : q * 2 ^ k < m * 2 ^ j → 4 * n < (q * 2 ^ k + m * 2 ^ j) * (q * 2 ^ k + m * 2 ^ j)
  nearer-above h =
      let g = grid m j k small (omega (arith, at_least)) in
      let c = g.0 in
      let l : q < c = lt_of_mul-lt-mul_right t (subst (λ (z : ℕ). q * t < z) g.1 h) in
      let p : q * 2 + 1 ≤ q + c = omega arith in
      let r : (q * 2 + 1) * t ≤ (q + c) * t = mul-le-mul_right t p in
      lt_of_lt_of_le half.above (square_le ((q * 2 + 1) * t) (q * t + m * 2 ^ j) (omega (arith, add-mul q c t, g.1)))

  pub nearer-below : m * 2 ^ j < q * 2 ^ k → (q * 2 ^ k + m * 2 ^ j) * (q * 2 ^ k + m * 2 ^ j) < 4 * n
  nearer-below h = go (dec_le (2 ^ 52 * t) (m * 2 ^ j))
    where
      under : q * t + m * 2 ^ j ≤ (q * 2 - 1) * t → (q * t + m * 2 ^ j) * (q * t + m * 2 ^ j) < 4 * n
      under l = lt_of_le_of_lt (square_le (q * t + m * 2 ^ j) ((q * 2 - 1) * t) l) half.below

      low : m * 2 ^ j < 2 ^ 52 * t → (2 ^ 52 ≡ q) ⊎ (2 ^ 52 < q) → (q * t + m * 2 ^ j) * (q * t + m * 2 ^ j) < 4 * n
      low l (inl e) =
          let b : q * t ≡ 2 ^ 52 * t = ap (λ (z : ℕ). z * t) (sym e) in
          let s : (q * t + m * 2 ^ j) * (q * t + m * 2 ^ j) < 2 * (2 ^ 52 * t) * (2 * (2 ^ 52 * t)) = square-lt (q * t + m * 2 ^ j) (2 * (2 ^ 52 * t)) (omega arith) in
          omega (arith, mul-mul-mul_comm 2 (2 ^ 52 * t) 2 (2 ^ 52 * t))
      low l (inr g) =
          let p : q + 2 ^ 52 ≤ q * 2 - 1 = omega arith in
          let r : (q + 2 ^ 52) * t ≤ (q * 2 - 1) * t = mul-le-mul_right t p in
          under (omega (arith, add-mul q (2 ^ 52) t))

      go : Dec (2 ^ 52 * t ≤ m * 2 ^ j) → (q * 2 ^ k + m * 2 ^ j) * (q * 2 ^ k + m * 2 ^ j) < 4 * n
      go (yes b) =
          let g = grid m j k small b in
          let c = g.0 in
          let l : c < q = lt_of_mul-lt-mul_right t (subst (λ (z : ℕ). z < q * t) g.1 h) in
          let p : q + c ≤ q * 2 - 1 = omega arith in
          let r : (q + c) * t ≤ (q * 2 - 1) * t = mul-le-mul_right t p in
          under (omega (arith, add-mul q c t, g.1))
      go (no f) = low (lt_of_not-le f) (eq-or-lt_of_le least)

-- ---- the whole number nearest to the root of a
module _ (a q t : ℕ) (pos : 0 < t) (near : NearestWhole a q) where
  area : 0 < t * t
  area = mul-pos pos pos

  pub whole-between : Between (a * (t * t)) q t
  whole-between = record {
    above =
        let l : 4 * a < (q * 2 + 1) * (q * 2 + 1) = omega (arith, square-twice-next q, near.above) in
        let p : 4 * a * (t * t) < (q * 2 + 1) * (q * 2 + 1) * (t * t) = mul-lt-mul_of_pos_right l area in
        omega (arith, mul_assoc 4 a (t * t), mul-mul-mul_comm (q * 2 + 1) t (q * 2 + 1) t);
    below =
        let p = q - 1 in
        let e : q ≡ p + 1 = omega (arith, near.least) in
        let s : q * q ≡ (p + 1) * (p + 1) = ap (λ (z : ℕ). z * z) e in
        let f : q * 2 - 1 ≡ p * 2 + 1 = omega (arith, near.least) in
        let d : (q * 2 - 1) * (q * 2 - 1) ≡ (p * 2 + 1) * (p * 2 + 1) = ap (λ (z : ℕ). z * z) f in
        let l : (q * 2 - 1) * (q * 2 - 1) < 4 * a = omega (arith, square-twice-next p, square-next p, near.below) in
        let r : (q * 2 - 1) * (q * 2 - 1) * (t * t) < 4 * a * (t * t) = mul-lt-mul_of_pos_right l area in
        omega (arith, mul_assoc 4 a (t * t), mul-mul-mul_comm (q * 2 - 1) t (q * 2 - 1) t);
  }

  pub whole-edge : 2 ^ 104 ≤ a → 2 ^ 52 * t * (2 ^ 52 * t) ≤ a * (t * t)
  whole-edge h =
      let p : 2 ^ 104 * (t * t) ≤ a * (t * t) = mul-le-mul_right (t * t) h in
      omega (arith, mul-mul-mul_comm (2 ^ 52) t (2 ^ 52) t)
