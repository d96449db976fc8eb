-- The root of a whole number, one binary digit after another, and the whole number nearest to it. Nothing here is about floats. Assumes nothing.
use mathlib.Core.Path.{◌≡◌, sym, ap, ◌∙◌}
use Prim.Native.Nat.{ℕ, ◌+◌, ◌-◌, ◌*◌, ◌/◌, ◌%◌, ◌^◌, ◌≤◌, ◌<◌}
use native.Mathlib.Nat.{mul_comm, mul-add, add-mul, mul_assoc, mul-le-mul, mul-le-mul_right, pow-suc, lt_of_lt_of_le, lt_of_not-le}
use lib.Pow.{pow_mono}
use native.Mathlib.Numerals.{add-one}
use native.Mathlib.Decide.{dec_le}
use native.Mathlib.Omega.{arith}
use Rattle.numbers.specs.Steps.{NearestWhole}

-- (a + b)²
pub square-add : (a b : ℕ) → (a + b) * (a + b) ≡ a * a + 2 * (a * b) + b * b
square-add a b =
    let e : (a + b) * (a + b) ≡ a * a + b * a + (a * b + b * b) = mul-add (a + b) a b ∙ ap (λ (z : ℕ). z + (a + b) * b) (add-mul a b a) ∙ ap (λ (z : ℕ). a * a + b * a + z) (add-mul a b b) in
    let c : b * a ≡ a * b = mul_comm b a in
    omega arith

pub square-next : (s : ℕ) → (s + 1) * (s + 1) ≡ s * s + 2 * s + 1
square-next s = omega (arith, square-add s 1)

pub square-twice : (s : ℕ) → s * 2 * (s * 2) ≡ 4 * (s * s)
square-twice s = let e : s * 2 * (s * 2) ≡ s * 2 * s * 2 = sym (mul_assoc (s * 2) s 2) in
    let f : s * 2 * s ≡ s * s * 2 = mul_assoc s 2 s ∙ ap (λ (z : ℕ). s * z) (mul_comm 2 s) ∙ sym (mul_assoc s s 2) in
    omega arith

pub square-twice-next : (s : ℕ) → (s * 2 + 1) * (s * 2 + 1) ≡ 4 * (s * s) + 4 * s + 1
square-twice-next s = omega (arith, square-next (s * 2), square-twice s)

-- Where the loop stands after i steps: s is the root, rounded down, of the upper 2 i digits of n * 2 ^ 10, a number of 64 digits that zeros follow; r is what is left over; w has the digits to come.
pub record Taken (n w s r i : ℕ) : Type 0 where
  pub turns : i ≤ 53
  pub split : (s * s + r) * 2 ^ 64 + w ≡ n * 2 ^ 10 * 4 ^ i
  pub over : r ≤ 2 * s
  pub root-lt : s < 2 ^ i
  pub left_lt : w < 2 ^ 64

pub start : (n : ℕ) → n < 2 ^ 54 - 1 → Taken n (n * 2 ^ 10 % 2 ^ 64) 0 0 0
start n h = record { turns = omega arith; split = omega arith; over = omega arith; root-lt = omega arith; left_lt = omega arith }

-- the bounds that keep a turn within 64 bits
pub root-small : {n w s r i : ℕ} → Taken n w s r i → s < 2 ^ 53
root-small {i = i} t = lt_of_lt_of_le t.root-lt (pow_mono t.turns)

-- a turn where the next digit of the root is 1, and one where it is 0
module _ (n w s r i : ℕ) (t : Taken n w s r i) (more : i < 53) where
  next-pow : n * 2 ^ 10 * 4 ^ (i + 1) ≡ n * 2 ^ 10 * 4 ^ i * 4
  next-pow = ap (λ (z : ℕ). n * 2 ^ 10 * 4 ^ z) (add-one i) ∙ ap (λ (z : ℕ). n * 2 ^ 10 * z) (pow-suc 4 i) ∙ sym (mul_assoc (n * 2 ^ 10) (4 ^ i) 4)

  twice-pow : 2 ^ (i + 1) ≡ 2 ^ i * 2
  twice-pow = ap (λ (z : ℕ). 2 ^ z) (add-one i) ∙ pow-suc 2 i

  pub one : s * 4 + 1 ≤ r * 4 + w / 2 ^ 62 → Taken n (w * 2 ^ 2 % 2 ^ 64) (s * 2 + 1) (r * 4 + w / 2 ^ 62 - (s * 4 + 1)) (i + 1)
  one h = record {
    turns = omega arith;
    split = omega (arith, next-pow, t.split, t.left_lt, square-twice-next s);
    over = omega (arith, t.over, t.left_lt);
    root-lt = omega (arith, twice-pow, t.root-lt);
    left_lt = omega arith;
  }

  pub zero : r * 4 + w / 2 ^ 62 < s * 4 + 1 → Taken n (w * 2 ^ 2 % 2 ^ 64) (s * 2) (r * 4 + w / 2 ^ 62) (i + 1)
  zero h = record {
    turns = omega arith;
    split = omega (arith, next-pow, t.split, t.left_lt, square-twice s);
    over = omega (arith, t.over, t.left_lt);
    root-lt = omega (arith, twice-pow, t.root-lt);
    left_lt = omega arith;
  }

-- after the last turn nothing is left of w
pub last : {n w s r i : ℕ} → Taken n w s r i → 53 ≤ i → s * s + r ≡ n * 2 ^ 52
last {n} {w} {s} {r} {i} t h =
    let e : i ≡ 53 = omega (arith, t.turns) in
    let f : (s * s + r) * 2 ^ 64 + w ≡ n * 2 ^ 10 * 4 ^ 53 = t.split ∙ ap (λ (z : ℕ). n * 2 ^ 10 * 4 ^ z) e in
    omega (arith, f, t.left_lt)

-- ---- the nearest whole number has 53 digits
module _ (n q : ℕ) (lo : 2 ^ 52 ≤ n) (hi : n < 2 ^ 54 - 1) (above : n * 2 ^ 52 ≤ q * q + q) where
  pub at_least : 2 ^ 52 ≤ q
  at_least = go (dec_le (2 ^ 52) q)
    where
      go : Dec (2 ^ 52 ≤ q) → 2 ^ 52 ≤ q
      go (yes h) = h
      go (no f) =
          let l : q ≤ 2 ^ 52 - 1 = omega (arith, lt_of_not-le f) in
          let m : q * q ≤ (2 ^ 52 - 1) * (2 ^ 52 - 1) = mul-le-mul l l in
          omega arith

  pub at_most : q * q < n * 2 ^ 52 + q → q < 2 ^ 53
  at_most below = go (dec_le (2 ^ 53) q)
    where
      go : Dec (2 ^ 53 ≤ q) → q < 2 ^ 53
      go (yes h) =
          let m : 2 ^ 53 * q ≤ q * q = mul-le-mul_right q h in
          omega arith
      go (no f) = lt_of_not-le f

-- ---- the whole number nearest to the root, from the root rounded down: s, or s + 1 where what is left over is above s
module _ (n s r : ℕ) (lo : 2 ^ 52 ≤ n) (hi : n < 2 ^ 54 - 1) (split : s * s + r ≡ n * 2 ^ 52) (over : r ≤ 2 * s) where
  pub down : r ≤ s → NearestWhole (n * 2 ^ 52) s
  down h =
      let above : n * 2 ^ 52 ≤ s * s + s = omega arith in
      let least : 2 ^ 52 ≤ s = at_least n s lo hi above in
      let below : s * s < n * 2 ^ 52 + s = omega arith in
      record { least = least; most = at_most n s lo hi above below; above = above; below = below }

  pub up : s < r → NearestWhole (n * 2 ^ 52) (s + 1)
  up h =
      let above : n * 2 ^ 52 ≤ (s + 1) * (s + 1) + (s + 1) = omega (arith, square-next s) in
      let below : (s + 1) * (s + 1) < n * 2 ^ 52 + (s + 1) = omega (arith, square-next s) in
      record { least = at_least n (s + 1) lo hi above; most = at_most n (s + 1) lo hi above below; above = above; below = below }
