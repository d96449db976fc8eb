-- The weight by a float's bits: three ranges of exponents, and the square of 53 digits. Assumes nothing.
use mathlib.Core.Path.{◌≡◌, refl, sym, ap, ap₂, subst, ◌∙◌}
use mathlib.Core.Bool.{true, false}
use Prim.Native.Nat.{ℕ, ◌+◌, ◌-◌, ◌*◌, ◌/◌, ◌%◌, ◌^◌, ◌≤◌, ◌<◌}
use native.Mathlib.Nat.{mul-le-mul, mul-le-mul_left, mul_comm, mul_assoc, mul_left_comm, mul-add, add-mul, lt_of_not-le, lt_of_lt_of_le, lt_of_le_of_lt, div-eq_of_lt, mul-lt-mul_of_pos_right}
use native.Mathlib.Decide.{dec_le}
use native.Mathlib.Omega.{arith}
use borrow.Author.Tests.{lt-ltb, le-ltb}
use lib.Dec.{ltb}
use lib.Pow.{pow-add, pow_pos, pow_mono, shl_lt, shl-shr, shr-shr, shr_lt}
use lib.Ieee.{Float, nan, inf, fin}
use Rattle.numbers.specs.Numbers.{is_finite}
use Rattle.numbers.specs.Root.{units_of}
use Rattle.numbers.specs.Steps.{digits, shift, normal_size}
use Rattle.modulus.specs.Steps.{SizeBits}
use Rattle.entropy_weights.specs.Weights.{weight_of}

-- ---- the square of 53 digits

-- the digits of a square by those of its number
square-split : (h l : ℕ) → (h * 2 ^ 26 + l) * (h * 2 ^ 26 + l) ≡ h * h * 2 ^ 52 + h * l * 2 ^ 27 + l * l
square-split h l =
    let p = mul-add (h * 2 ^ 26 + l) (h * 2 ^ 26) l in
    let q = add-mul (h * 2 ^ 26) l (h * 2 ^ 26) in
    let r = add-mul (h * 2 ^ 26) l l in
    let a : h * 2 ^ 26 * (h * 2 ^ 26) ≡ h * h * 2 ^ 52 = simp (mul_assoc, mul_left_comm) in
    let b : l * (h * 2 ^ 26) ≡ h * l * 2 ^ 26 = simp (mul_assoc, mul_left_comm) in
    let d : h * 2 ^ 26 * l ≡ h * l * 2 ^ 26 = simp (mul_assoc, mul_comm) in
    omega (arith, p, q, r, a, b, d)

top_of : (hh hl ll : ℕ) → hh + (hl + ll / 2 ^ 27) / 2 ^ 25 ≡ (hh * 2 ^ 52 + hl * 2 ^ 27 + ll) / 2 ^ 52
top_of hh hl ll = omega arith

pub square-top : (m : ℕ) → m / 2 ^ 26 * (m / 2 ^ 26) + (m / 2 ^ 26 * (m % 2 ^ 26) + m % 2 ^ 26 * (m % 2 ^ 26) / 2 ^ 27) / 2 ^ 25 ≡ m * m / 2 ^ 52
square-top m =
    let e : m / 2 ^ 26 * 2 ^ 26 + m % 2 ^ 26 ≡ m = omega arith in
    top_of (m / 2 ^ 26 * (m / 2 ^ 26)) (m / 2 ^ 26 * (m % 2 ^ 26)) (m % 2 ^ 26 * (m % 2 ^ 26))
    ∙ ap (λ (x : ℕ). x / 2 ^ 52) (sym (square-split (m / 2 ^ 26) (m % 2 ^ 26)) ∙ ap (λ (x : ℕ). x * x) e)

-- no product wraps
module _ (m : ℕ) (h : m < 2 ^ 53) where
  pub high-square : m / 2 ^ 26 * (m / 2 ^ 26) ≤ 2 ^ 27 * 2 ^ 27
  high-square = let l : m / 2 ^ 26 ≤ 2 ^ 27 = omega arith in mul-le-mul l l

  pub cross : m / 2 ^ 26 * (m % 2 ^ 26) ≤ 2 ^ 27 * 2 ^ 26
  cross = let l : m / 2 ^ 26 ≤ 2 ^ 27 = omega arith in let k : m % 2 ^ 26 ≤ 2 ^ 26 = omega arith in mul-le-mul l k

  pub low-square : m % 2 ^ 26 * (m % 2 ^ 26) ≤ 2 ^ 26 * 2 ^ 26
  low-square = let k : m % 2 ^ 26 ≤ 2 ^ 26 = omega arith in mul-le-mul k k

-- ---- the weight by its size

pub weight-in : (x : Float) → units_of x < 2 ^ 1075 → weight_of x ≡ units_of x * units_of x / 2 ^ 2124
unfolding weight_of
weight-in x h = let e : ltb (units_of x) (2 ^ 1075) ≡ true = lt-ltb (units_of x) (2 ^ 1075) h in rw e

pub weight-past : (x : Float) → 2 ^ 1075 ≤ units_of x → weight_of x ≡ 0
unfolding weight_of
weight-past x h = let e : ltb (units_of x) (2 ^ 1075) ≡ false = le-ltb (units_of x) (2 ^ 1075) h in rw e

square-below : (n k : ℕ) → n < 2 ^ k → n * n < 2 ^ (k + k)
square-below n k h = lt_of_le_of_lt (mul-le-mul_left n (lt-le h)) (subst (λ (y : ℕ). n * 2 ^ k < y) (sym (pow-add 2 k k)) (mul-lt-mul_of_pos_right h (pow_pos k)))
  where
    lt-le : {a b : ℕ} → a < b → a ≤ b
    lt-le g = omega arith

pub weight-below : (x : Float) → units_of x < 2 ^ 1062 → weight_of x ≡ 0
weight-below x h =
    weight-in x (lt_of_lt_of_le h (pow_mono {i = 1062} {j = 1075} (omega arith)))
    ∙ div-eq_of_lt (square-below (units_of x) 1062 h)

pub weight-few : (x : Float) → weight_of x < 2 ^ 26
weight-few x = go (dec_le (2 ^ 1075) (units_of x))
  where
    go : Dec (2 ^ 1075 ≤ units_of x) → weight_of x < 2 ^ 26
    go (yes h) = rw (weight-past x h) (omega arith)
    go (no h) = rw (weight-in x (lt_of_not-le h)) (shr_lt 26 2124 (square-below (units_of x) 1075 (lt_of_not-le h)))

-- ---- by the bits

module _ (x : Float) (b : ℕ) (s : SizeBits x b) where
  -- below 2^-12
  pub bits_below : b / 2 ^ 52 < 1011 → 0 ≡ weight_of x
  bits_below h = sym (weight-below x (go (dec_le (2 ^ 52) b)))
    where
      go : Dec (2 ^ 52 ≤ b) → units_of x < 2 ^ 1062
      go (yes k) =
          let l : 53 + shift b ≤ 1062 = omega arith in
          rw (s.normal k) (lt_of_lt_of_le (shl_lt 53 (shift b) (omega arith)) (pow_mono l))
      go (no k) = rw (s.small (lt_of_not-le k)) (lt_of_lt_of_le (lt_of_not-le k) (pow_mono {i = 52} {j = 1062} (omega arith)))

  -- from 2 on
  pub bits-past : 1023 < b / 2 ^ 52 → 0 ≡ weight_of x
  bits-past h =
      let k : 2 ^ 52 ≤ b = omega arith in
      let j : 1023 ≤ shift b = omega arith in
      let d : 2 ^ 52 ≤ digits b = omega arith in
      sym (weight-past x (rw (s.normal k) (subst (λ (y : ℕ). y ≤ normal_size b) (sym (pow-add 2 52 1023)) (mul-le-mul d (pow_mono j)))))

  -- between: the square's top, moved down
  module _ (lo : 1011 ≤ b / 2 ^ 52) (hi : b / 2 ^ 52 ≤ 1023) where
    normal : units_of x ≡ digits b * 2 ^ shift b
    normal = s.normal (omega arith)

    inside : units_of x < 2 ^ 1075
    inside =
        let l : 53 + shift b ≤ 1075 = omega arith in
        rw normal (lt_of_lt_of_le (shl_lt 53 (shift b) (omega arith)) (pow_mono l))

    squared : units_of x * units_of x ≡ digits b * digits b * 2 ^ (shift b + shift b)
    squared =
        ap (λ (y : ℕ). y * y) normal ∙ swap (digits b) (2 ^ shift b)
        ∙ ap (λ (y : ℕ). digits b * digits b * y) (sym (pow-add 2 (shift b) (shift b)))
      where
        swap : (u v : ℕ) → u * v * (u * v) ≡ u * u * (v * v)
        swap u v = simp (mul_assoc, mul_left_comm)

    pub bits-between : (r : ℕ) → r ≡ digits b * digits b / 2 ^ 52 → r / 2 ^ (2074 - 2 * (b / 2 ^ 52)) ≡ weight_of x
    bits-between r e =
        let t = 2074 - 2 * (b / 2 ^ 52) in
        let z : shift b + shift b + (52 + t) ≡ 2124 = omega arith in
        ap (λ (y : ℕ). y / 2 ^ t) e
        ∙ shr-shr (digits b * digits b) 52 t
        ∙ ap (λ (y : ℕ). y / 2 ^ (52 + t)) (sym (shl-shr (digits b * digits b) (shift b + shift b)))
        ∙ shr-shr (digits b * digits b * 2 ^ (shift b + shift b)) (shift b + shift b) (52 + t)
        ∙ ap₂ (λ (u v : ℕ). u / 2 ^ v) (sym squared) z
        ∙ sym (weight-in x inside)

-- an infinity or the NaN has no units
pub not_finite : (x : Float) → is_finite x ≡ false → 0 ≡ weight_of x
unfolding is_finite units_of weight_of
not_finite nan h = refl
not_finite (inf s) h = refl
not_finite (fin s m e) h = cc
