-- The digits of a root that comes out even, in whole numbers. Assumes nothing.
use mathlib.Core.Path.{◌≡◌, refl, sym, ap, ◌∙◌}
use mathlib.Core.Logic.{◌⊎◌, inl, inr}
use mathlib.Core.Bool.{Bool, true, false}
use Prim.Native.Nat.{ℕ, zero, suc, ◌+◌, ◌-◌, ◌*◌, ◌/◌, ◌%◌, ◌^◌, ◌≤◌, ◌<◌}
use native.Mathlib.Nat.{mul_assoc, mul-one, mul-le-mul, mul-le-mul_left, mul-lt-mul_of_pos_right, mul-mul-mul_comm, mul-pos, mul_left_comm, eq_of_mul-eq-mul_right, pow-succ', lt_of_lt_of_le, lt_of_not-le, le_trans, le_of_eq, not-le_of_lt, eq-or-lt_of_le}
use native.Mathlib.Decide.{dec_le}
use native.Mathlib.Omega.{arith}
use lib.Dec.{eqb}
use lib.Pow.{pow-add, pow_pos, pow_mono}
use lib.Ieee.{binary64, of_bits}
use borrow.Author.Tests.{eqb-true, eqb-false, eq-eqb, ne_eqb}
use Rattle.numbers.specs.Steps.{digits, shift}
use Rattle.numbers.proofs.Digits.{square-add}
use Rattle.numbers.proofs.Patterns.{normal-size, small_size}
use Rattle.numbers.proofs.Scaling.{moved}
use Rattle.exact_roots.specs.Exact.{square_units}

-- two tests of equal numbers agree
pub same-eqb : (a b c d : ℕ) → (a ≡ b → c ≡ d) → (c ≡ d → a ≡ b) → eqb a b ≡ eqb c d
same-eqb a b c d f g = go (eqb a b) refl
  where
    go : (t : Bool) → eqb a b ≡ t → t ≡ eqb c d
    go true e = sym (eq-eqb c d (f (eqb-true a b e)))
    go false e = sym (ne_eqb c d (λ h. eqb-false a b e (g h)))

-- a number whose square ends in twice k zeros ends in k
module _ (P : ℕ) where
  quarter : (n : ℕ) → n * (2 * P * (2 * P)) ≡ 4 * (n * (P * P))
  quarter n =
      let a : 2 * P * (2 * P) ≡ 4 * (P * P) = mul-mul-mul_comm 2 P 2 P in
      ap (λ (z : ℕ). n * z) a ∙ mul_left_comm n 4 (P * P)

halved : (q c d n P : ℕ) → q ≡ c + c + d → d ≤ 1 → q * q ≡ 4 * (n * (P * P)) → (d ≡ 0) × (c * c ≡ n * (P * P))
halved q c zero n P e u s =
    let a : q * q ≡ (c + c) * (c + c) = ap (λ (z : ℕ). z * z) (e ∙ omega arith) in
    (omega arith, omega (arith, square-add c c))
halved q c (suc zero) n P e u s =
    let a : q * q ≡ (c + c + 1) * (c + c + 1) = ap (λ (z : ℕ). z * z) e in
    absurd (omega (arith, square-add (c + c) 1, square-add c c))
halved q c (suc (suc d)) n P e u s = absurd (omega arith)

pub ends : (k n q : ℕ) → q * q ≡ n * (2 ^ k * 2 ^ k) → (c : ℕ) × (q ≡ c * 2 ^ k) × (c * c ≡ n)
ends zero n q e = (q, sym (mul-one q), e ∙ mul-one n)
ends (suc k) n q e =
    let s : q * q ≡ 4 * (n * (2 ^ k * 2 ^ k)) = e ∙ ap (λ (z : ℕ). n * (z * z)) (pow-succ' 2 k) ∙ quarter (2 ^ k) n in
    let v = halved q (q / 2) (q % 2) n (2 ^ k) (omega arith) (omega arith) s in
    let w = ends k n (q / 2) v.1 in
    let d : q ≡ 2 * (w.0 * 2 ^ k) = omega (arith, v.0, w.1) in
    (w.0, d ∙ mul_left_comm 2 w.0 (2 ^ k) ∙ ap (λ (z : ℕ). w.0 * z) (sym (pow-succ' 2 k)), w.2)

-- of two numbers of the same count of digits, moved up by unlike counts of places, the one that moved further is larger
pub further : (L A a K k : ℕ) → A < 4 * L → L ≤ a → K < k → A * (2 ^ K * 2 ^ K) ≡ a * (2 ^ k * 2 ^ k) → ⊥
further L A a K k few many less e =
    let P = 2 ^ K in
    let two : 2 * P ≤ 2 ^ k = le_trans (le_of_eq (sym (pow-succ' 2 K))) (pow_mono less) in
    let up : 4 * L * (P * P) ≤ a * (2 ^ k * 2 ^ k) =
    le_trans (le_of_eq (mul_assoc 4 L (P * P) ∙ sym (quarter P L))) (mul-le-mul many (mul-le-mul two two)) in
    let down : A * (P * P) < 4 * L * (P * P) = mul-lt-mul_of_pos_right few (mul-pos (pow_pos K) (pow_pos K)) in
    not-le_of_lt (lt_of_lt_of_le down up) (le_of_eq (sym e))

-- ---- the square of x's root by the digits m and the exponent e of x
module _ (m e : ℕ) (lo : 2 ^ 52 ≤ m) (hi : m < 2 ^ 53) (most : e ≤ 2097) where
  abbrev N : ℕ
  N = m * 2 ^ (e % 2)

  abbrev K : ℕ
  K = e / 2 + 485

  even-places : m * 2 ^ (e + 1022) ≡ N * 2 ^ 52 * (2 ^ K * 2 ^ K)
  even-places =
      let x : e + 1022 ≡ e % 2 + (52 + (K + K)) = omega arith in
      ap (λ (z : ℕ). m * 2 ^ z) x
      ∙ ap (λ (z : ℕ). m * z) (pow-add 2 (e % 2) (52 + (K + K)) ∙ ap (λ (z : ℕ). 2 ^ (e % 2) * z) (pow-add 2 52 (K + K) ∙ ap (λ (z : ℕ). 2 ^ 52 * z) (pow-add 2 K K)))
      ∙ sym (mul_assoc m (2 ^ (e % 2)) (2 ^ 52 * (2 ^ K * 2 ^ K)))
      ∙ sym (mul_assoc N (2 ^ 52) (2 ^ K * 2 ^ K))

  N-least : 2 ^ 52 ≤ N
  N-least = let p : m * 1 ≤ N = mul-le-mul_left m (pow_pos (e % 2)) in omega arith

  N-most : N < 2 ^ 54
  N-most = let p : N ≤ m * 2 = mul-le-mul_left m (pow_mono {i = e % 2} {j = 1} (omega arith)) in omega arith

  module _ (a : ℕ) (below : a < 2047 * 2 ^ 52) where
    abbrev r² : ℕ
    r² = square_units (of_bits binary64 a)

    square-normal : 2 ^ 52 ≤ a → r² ≡ digits a * digits a * (2 ^ shift a * 2 ^ shift a)
    unfolding square_units
    square-normal h = ap (λ (z : ℕ). z * z) (normal-size a h below) ∙ mul-mul-mul_comm (digits a) (2 ^ shift a) (digits a) (2 ^ shift a)

    square-small : a < 2 ^ 52 → r² ≡ a * a * (2 ^ 0 * 2 ^ 0)
    unfolding square_units
    square-small h = ap (λ (z : ℕ). z * z) (small_size a h) ∙ sym (mul-one (a * a))

    digits-least : 2 ^ 104 ≤ digits a * digits a
    digits-least =
        let u : 2 ^ 52 ≤ digits a = omega arith in
        let p : 2 ^ 52 * 2 ^ 52 ≤ digits a * digits a = mul-le-mul u u in
        omega arith

    digits-most : digits a * digits a < 2 ^ 106
    digits-most =
        let u : digits a ≤ 2 ^ 53 - 1 = omega arith in
        let p : digits a * digits a ≤ (2 ^ 53 - 1) * (2 ^ 53 - 1) = mul-le-mul u u in
        omega arith

    -- an exponent that is not the root's
    pub other-exponent : (a / 2 ^ 52 ≡ e / 2 + 486 → ⊥) → r² ≡ m * 2 ^ (e + 1022) → ⊥
    other-exponent other same = go (dec_le (2 ^ 52) a)
      where
        by : {n : ℕ} → r² ≡ n → n ≡ N * 2 ^ 52 * (2 ^ K * 2 ^ K)
        by f = sym f ∙ same ∙ even-places

        apart : 2 ^ 52 ≤ a → (shift a ≡ K) ⊎ (shift a < K) → ⊥
        apart h (inl i) = other (omega arith)
        apart h (inr l) = further (2 ^ 104) (digits a * digits a) (N * 2 ^ 52) (shift a) K (omega (arith, digits-most)) (omega (arith, N-least)) l (by (square-normal h))

        go : Dec (2 ^ 52 ≤ a) → ⊥
        go (yes h) = side h (dec_le (shift a) K)
          where
            side : 2 ^ 52 ≤ a → Dec (shift a ≤ K) → ⊥
            side h (yes l) = apart h (eq-or-lt_of_le l)
            side h (no f) = further (2 ^ 104) (N * 2 ^ 52) (digits a * digits a) K (shift a) (omega (arith, N-most)) digits-least (lt_of_not-le f) (sym (by (square-normal h)))
        go (no f) =
            let s : a < 2 ^ 52 = lt_of_not-le f in
            let u : a ≤ 2 ^ 52 = omega arith in
            let p : a * a ≤ 2 ^ 52 * 2 ^ 52 = mul-le-mul u u in
            further (2 ^ 104) (a * a) (N * 2 ^ 52) 0 K (omega arith) (omega (arith, N-least)) (omega arith) (by (square-small s))

    -- the root's exponent: what is left to compare is the squares of the digits
    module _ (is : a / 2 ^ 52 ≡ e / 2 + 486) where
      normal : 2 ^ 52 ≤ a
      normal = omega arith

      at : r² ≡ digits a * digits a * (2 ^ K * 2 ^ K)
      at = let x : shift a ≡ K = omega arith in square-normal normal ∙ ap (λ (z : ℕ). digits a * digits a * (2 ^ z * 2 ^ z)) x

      alike : r² ≡ m * 2 ^ (e + 1022) → digits a * digits a ≡ N * (2 ^ 26 * 2 ^ 26)
      alike same =
          eq_of_mul-eq-mul_right (2 ^ K * 2 ^ K) (mul-pos (pow_pos K) (pow_pos K)) (digits a * digits a) (N * 2 ^ 52) (sym at ∙ same ∙ even-places)

      pub no-zeros : (digits a % 2 ^ 26 ≡ 0 → ⊥) → r² ≡ m * 2 ^ (e + 1022) → ⊥
      no-zeros some same = let w = ends 26 N (digits a) (alike same) in some (omega (arith, w.1))

      pub zeros-left : digits a % 2 ^ 26 ≡ 0 → eqb (digits a / 2 ^ 26 * (digits a / 2 ^ 26)) (N % 2 ^ 64) ≡ eqb r² (m * 2 ^ (e + 1022))
      zeros-left none =
          let h = digits a / 2 ^ 26 in
          let d : digits a ≡ h * 2 ^ 26 = omega arith in
          let s : digits a * digits a ≡ h * h * 2 ^ 52 = ap (λ (z : ℕ). z * z) d ∙ mul-mul-mul_comm h (2 ^ 26) h (2 ^ 26) in
          same-eqb (h * h) (N % 2 ^ 64) r² (m * 2 ^ (e + 1022))
          (λ f. at ∙ ap (λ (z : ℕ). z * (2 ^ K * 2 ^ K)) (s ∙ ap (λ (z : ℕ). z * 2 ^ 52) (f ∙ moved m e lo hi)) ∙ sym even-places)
          (λ f. omega (arith, s, alike f, moved m e lo hi))
