-- Two comparisons with 2 ^ k are the bound on a magnitude. Assumes nothing.
use mathlib.Core.Path.{◌≡◌, refl, sym, ◌∙◌}
use mathlib.Core.Logic.{⊎_elim}
use mathlib.Core.Bool.{Bool, true, false, ◌&&◌, ◌||◌}
use Prim.Native.Nat.{ℕ, suc, ◌+◌, ◌*◌, ◌^◌, ◌<◌}
use native.Mathlib.Nat.{eq-or-lt_of_le, mul-one, one-mul, mul-pos}
use native.Mathlib.Omega.{arith}
use borrow.Author.Tests.{lt-ltb, le-ltb, eq-eqb, ne_eqb, leb-true, leb-false}
use lib.Dec.{leb, ltb, eqb}
use lib.IntN.{ℤ, pos, negsuc}
use lib.Pow.{pow_pos}
use lib.Ieee.{Float, nan, inf, fin, le, lt, eq, neg, up, down}
use Rattle.numbers.specs.Numbers.{allowed_for}

-- 2 ^ k
abbrev pub power : ℕ → Float
power k = fin false 1 (pos k)

-- `a < b or a = b` is `a ≤ b`
or-le : (a b : ℕ) (t : Bool) → (a ≡ b → t ≡ true) → ((a ≡ b → ⊥) → t ≡ false) → (ltb a b || (t && true)) ≡ leb a b
or-le a b t p q =
    elim (leb a b) as (λ (x : Bool). leb a b ≡ x → (ltb a b || (t && true)) ≡ x) [
      | true ↦ λ h.
          ⊎_elim
          (λ (e : a ≡ b). rw (p e, le-ltb a b (omega arith)))
          (λ (e : a < b). rw (lt-ltb a b e))
          (eq-or-lt_of_le (leb-true a b h))
      | false ↦ λ h.
          let l : b < a = leb-false a b h in
          rw (le-ltb a b (omega arith), q (λ e. omega arith))
    ] refl

down_pos : (e : ℤ) → 0 < down e
down_pos (pos k) = omega arith
down_pos (negsuc k) = pow_pos (suc k)

left-pos : (a b : ℕ) → 0 < b → 0 < a + b
left-pos a b h = omega arith

right-pos : (a b : ℕ) → 0 < a → 0 < a + b
right-pos a b h = omega arith

module _ (k : ℕ) where
  -- a positive number, against 2 ^ k; a negative one, against -(2 ^ k)
  plus : (m : ℕ) (e : ℤ) → le (fin false m e) (power k) ≡ leb (m * up e) (2 ^ k * down e)
  unfolding le lt eq
  plus m e =
      rw (one-mul (2 ^ k), mul-one (m * up e))
      (or-le (m * up e) (2 ^ k * down e) (eqb (m * up e) (2 ^ k * down e)) (eq-eqb _ _) (ne_eqb _ _))

  minus : (m : ℕ) (e : ℤ) → le (neg (power k)) (fin true m e) ≡ leb (m * up e) (2 ^ k * down e)
  unfolding le lt eq neg
  minus m e =
      rw (one-mul (2 ^ k), mul-one (m * up e))
      (or-le (m * up e) (2 ^ k * down e) (eqb (2 ^ k * down e) (m * up e)) (λ h. eq-eqb _ _ (sym h)) (λ h. ne_eqb _ _ (λ g. h (sym g))))

  room-left : (e : ℤ) → 0 < 1 * 2 ^ k * down e
  room-left e = mul-pos (rw (one-mul (2 ^ k)) (pow_pos k)) (down_pos e)

  -- a number of the other sign passes
  minus-big : (m : ℕ) (e : ℤ) → le (fin true m e) (power k) ≡ true
  unfolding le lt eq
  minus-big m e = rw (lt-ltb 0 (m * up e * 1 + 1 * 2 ^ k * down e) (left-pos (m * up e * 1) (1 * 2 ^ k * down e) (room-left e)))

  plus-big : (m : ℕ) (e : ℤ) → le (neg (power k)) (fin false m e) ≡ true
  unfolding le lt eq neg
  plus-big m e = rw (lt-ltb 0 (1 * 2 ^ k * down e + m * up e * 1) (right-pos (1 * 2 ^ k * down e) (m * up e * 1) (room-left e)))

  pub small : (x : Float) → le x (power k) ≡ true → le (neg (power k)) x ≡ allowed_for k x
  unfolding le lt eq neg allowed_for
  small nan h = refl
  small (inf true) h = refl
  small (inf false) h = sym h
  small (fin true m e) h = minus m e
  small (fin false m e) h = plus-big m e ∙ sym h ∙ plus m e

  pub large : (x : Float) → le x (power k) ≡ false → false ≡ allowed_for k x
  unfolding le lt eq neg allowed_for
  large nan h = refl
  large (inf s) h = refl
  large (fin true m e) h = let z : true ≡ false = sym (minus-big m e) ∙ h in cc
  large (fin false m e) h = sym h ∙ plus m e
