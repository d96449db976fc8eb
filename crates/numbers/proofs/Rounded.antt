-- The root of n, rounded down to s and then to 53 digits with the half that stands for what lies above s, is on the right side of each halfway point. Nothing here is about floats. Assumes nothing.
use mathlib.Core.Path.{◌≡◌, sym, ap, ◌∙◌, subst}
use mathlib.Core.Logic.{◌⊎◌, inl, inr}
use mathlib.Core.Bool.{Bool, true, false, not, cond}
use Prim.Native.Nat.{ℕ, zero, suc, ◌+◌, ◌-◌, ◌*◌, ◌/◌, ◌^◌, ◌≤◌, ◌<◌, compare, Ordering}
use native.Mathlib.Nat.{mul_assoc, mul_left_comm, mul-mul-mul_comm, add-mul, mul-le-mul_left, mul-le-mul_right, lt_of_lt_of_le, lt_of_not-le, eq-or-lt_of_le, eq_of_mul-eq-mul_right, pow-succ', pow-suc}
use native.Mathlib.Numerals.{add-one}
use native.Mathlib.Decide.{dec_le}
use native.Mathlib.Omega.{arith}
use lib.Dec.{T, is_le, compare_is_eq, leb, eqb, leb→le, nleb→lt, eqb→eq, eqb_refl}
use lib.Pow.{pow-add, pow_pos}
use lib.Ieee.{nearest}
use lib.Ieee.Digits.{back}
use Rattle.numbers.specs.Root.{next_root, floor_root}
use Rattle.numbers.proofs.Digits.{square-add, square-next}
use Rattle.numbers.proofs.Halfway.{Between, square_le, square-lt}

-- ---- the root rounded down
abbrev pub Floor : ℕ → ℕ → Type 0
Floor n s = (s * s ≤ n) × (n < (s + 1) * (s + 1))

next-right : (s n : ℕ) → s * s ≤ n → n < (s + 2) * (s + 2) → Floor n (next_root s n)
unfolding next_root
next-right s n lo hi = go (leb ((s + 1) * (s + 1)) n) (leb→le ((s + 1) * (s + 1)) n) (nleb→lt ((s + 1) * (s + 1)) n)
  where
    two : n < (s + 1 + 1) * (s + 1 + 1)
    two = omega (arith, square-add s 2, square-next s, square-next (s + 1))

    go : (b : Bool) → (T b → (s + 1) * (s + 1) ≤ n) → (T (not b) → n < (s + 1) * (s + 1)) → Floor n (cond b (s + 1) s)
    go true y f = (y tt, two)
    go false y f = (lo, f tt)

pub floor-right : (d n : ℕ) → n < 4 ^ d → Floor n (floor_root d n)
unfolding floor_root
floor-right zero n h = (omega arith, omega arith)
floor-right (suc d) n h =
    let r = floor_root d (n / 4) in
    let p : 4 ^ suc d ≡ 4 * 4 ^ d = pow-succ' 4 d in
    let k = floor-right d (n / 4) (omega arith) in
    let e : 2 * r * (2 * r) ≡ 4 * (r * r) = mul-mul-mul_comm 2 r 2 r in
    let f : 2 * (r + 1) * (2 * (r + 1)) ≡ 4 * ((r + 1) * (r + 1)) = mul-mul-mul_comm 2 (r + 1) 2 (r + 1) in
    let g : 2 * (r + 1) ≡ 2 * r + 2 = omega arith in
    let i : (2 * r + 2) * (2 * r + 2) ≡ 4 * ((r + 1) * (r + 1)) = ap (λ (z : ℕ). z * z) (sym g) ∙ f in
    next-right (2 * r) n (omega (arith, k.0)) (omega (arith, k.1))

-- ---- a fraction to the nearest whole number, by the remainder r of a by b, whose quotient is w
pub data Near (w r b : ℕ) : ℕ → Type 0 where
  down : r * 2 < b → Near w r b w
  up : b < r * 2 → Near w r b (suc w)
  tie : {c : ℕ} → r * 2 ≡ b → Near w r b c

pub near : (w r b : ℕ) → Near w r b (nearest w (compare (r * 2) b))
near w r b = go (compare (r * 2) b) (leb→le (r * 2) b) (nleb→lt (r * 2) b) (eqb→eq (r * 2) b) (λ (e : r * 2 ≡ b). subst (λ (z : ℕ). T (eqb (r * 2) z)) e (eqb_refl (r * 2)))
  where
    less : (r * 2 ≡ b → ⊥) → (r * 2 ≡ b) ⊎ (r * 2 < b) → r * 2 < b
    less n (inl e) = absurd (n e)
    less n (inr l) = l

    go : (o : Ordering) → (T (is_le o) → r * 2 ≤ b) → (T (not (is_le o)) → b < r * 2) → (T (compare_is_eq o) → r * 2 ≡ b) → (r * 2 ≡ b → T (compare_is_eq o)) → Near w r b (nearest w o)
    go Ordering.lt le gt eq ne = down (less ne (eq-or-lt_of_le (le tt)))
    go Ordering.eq le gt eq ne = tie (eq tt)
    go Ordering.gt le gt eq ne = up (gt tt)

-- n is never the square of a halfway point, for it has at most 53 digits that are not zeros at its end, and the square of a number of 54 digits, the last of them 1, has more
module _ (n m j f h : ℕ) (is : n ≡ m * 2 ^ j) (small : m < 2 ^ 53) (large : 2 ^ 52 ≤ f) (e : (f * 2 + 1) * 2 ^ h * ((f * 2 + 1) * 2 ^ h) ≡ n) where
  abbrev o : ℕ
  o = (f * 2 + 1) * (f * 2 + 1)

  same : o * 2 ^ (h + h) ≡ m * 2 ^ j
  same = ap (λ (z : ℕ). (f * 2 + 1) * (f * 2 + 1) * z) (pow-add 2 h h) ∙ sym (mul-mul-mul_comm (f * 2 + 1) (2 ^ h) (f * 2 + 1) (2 ^ h)) ∙ e ∙ is

  odd : o ≡ 2 * (2 * (f * f) + 2 * f) + 1
  odd = omega (arith, square-next (f * 2), mul-mul-mul_comm f 2 f 2)

  many : 2 ^ 53 ≤ o
  many = let p : 2 ^ 52 * f ≤ f * f = mul-le-mul_right f large in omega (arith, odd)

  pub no_tie : ⊥
  no_tie = go (dec_le j (h + h))
    where
      go : Dec (j ≤ h + h) → ⊥
      go (yes l) =
          let g : o * 2 ^ (h + h - j) * 2 ^ j ≡ m * 2 ^ j = mul_assoc o (2 ^ (h + h - j)) (2 ^ j) ∙ ap (λ (z : ℕ). o * z) (sym (pow-add 2 (h + h - j) j) ∙ ap (λ (z : ℕ). 2 ^ z) (back (h + h) j l)) ∙ same in
          let i : o * 2 ^ (h + h - j) ≡ m = eq_of_mul-eq-mul_right (2 ^ j) (pow_pos j) (o * 2 ^ (h + h - j)) m g in
          let k : o * 1 ≤ o * 2 ^ (h + h - j) = mul-le-mul_left o (pow_pos (h + h - j)) in
          omega (arith, many)
      go (no l) =
          let d = j - suc (h + h) in
          let x : suc d + (h + h) ≡ j = omega (arith, lt_of_not-le l) in
          let g : o * 2 ^ (h + h) ≡ m * 2 ^ suc d * 2 ^ (h + h) = same ∙ ap (λ (z : ℕ). m * 2 ^ z) (sym x) ∙ ap (λ (z : ℕ). m * z) (pow-add 2 (suc d) (h + h)) ∙ sym (mul_assoc m (2 ^ suc d) (2 ^ (h + h))) in
          let i : o ≡ m * 2 ^ suc d = eq_of_mul-eq-mul_right (2 ^ (h + h)) (pow_pos (h + h)) o (m * 2 ^ suc d) g in
          let k : m * 2 ^ suc d ≡ m * 2 ^ d * 2 = ap (λ (z : ℕ). m * z) (pow-suc 2 d) ∙ sym (mul_assoc m (2 ^ d) 2) in
          omega (arith, odd)

-- ---- the root rounded down, s, in units of T = 2 H: f whole units, and g over
module _ (n s t f g h m j : ℕ) (root : Floor n s) (bit : t ≤ 1) (whole : t ≡ 0 → s * s ≡ n) (more : t ≡ 1 → s * s < n)
    (split : s ≡ (f * 2) * 2 ^ h + g) (over : g < 2 * 2 ^ h) (least : 2 ^ 52 ≤ f) (is : n ≡ m * 2 ^ j) (small : m < 2 ^ 53) where
  abbrev H : ℕ
  H = 2 ^ h

  H-pos : 0 < H
  H-pos = pow_pos h

  spread : (c : ℕ) → (f * 2 + c) * H ≡ f * 2 * H + c * H
  spread c = add-mul (f * 2) c H

  pred-less : (f * 2 - 1) * H + H ≡ f * 2 * H
  pred-less =
      let e : f * 2 ≡ f * 2 - 1 + 1 = omega arith in
      let a : f * 2 * H ≡ (f * 2 - 1) * H + 1 * H = ap (λ (z : ℕ). z * H) e ∙ add-mul (f * 2 - 1) 1 H in
      omega arith

  -- from the squares in units of H to those in units of 2 H
  wide : (z : ℕ) → z * (2 * H) * (z * (2 * H)) ≡ 4 * (z * H * (z * H))
  wide z = ap (λ (y : ℕ). y * y) (mul_left_comm z 2 H) ∙ mul-mul-mul_comm 2 (z * H) 2 (z * H)

  widened : (q : ℕ) → n < (q * 2 + 1) * H * ((q * 2 + 1) * H) → (q * 2 - 1) * H * ((q * 2 - 1) * H) < n → Between n q (2 * H)
  widened q above below = record { above = omega (arith, wide (q * 2 + 1)); below = omega (arith, wide (q * 2 - 1)) }

  from-down : 2 * g + t < 2 * H → Between n f (2 * H)
  from-down l =
      widened f
      (lt_of_lt_of_le root.1 (square_le (s + 1) ((f * 2 + 1) * H) (omega (arith, spread 1))))
      (lt_of_lt_of_le (square-lt ((f * 2 - 1) * H) s (omega (arith, pred-less, H-pos))) root.0)

  from_up : 2 * H < 2 * g + t → Between n (f + 1) (2 * H)
  from_up l =
      widened (f + 1)
      (lt_of_lt_of_le root.1 (square_le (s + 1) (((f + 1) * 2 + 1) * H) (omega (arith, three, spread 3, H-pos))))
      (subst (λ (z : ℕ). z * H * (z * H) < n) one (go (eq-or-lt_of_le reach)))
    where
      three : ((f + 1) * 2 + 1) * H ≡ (f * 2 + 3) * H
      three = let e : (f + 1) * 2 + 1 ≡ f * 2 + 3 = omega arith in ap (λ (z : ℕ). z * H) e

      one : f * 2 + 1 ≡ (f + 1) * 2 - 1
      one = omega arith

      reach : (f * 2 + 1) * H ≤ s
      reach = omega (arith, spread 1)

      go : ((f * 2 + 1) * H ≡ s) ⊎ ((f * 2 + 1) * H < s) → (f * 2 + 1) * H * ((f * 2 + 1) * H) < n
      go (inl e) = subst (λ (z : ℕ). z * z < n) (sym e) (more (omega (arith, spread 1)))
      go (inr k) = lt_of_lt_of_le (square-lt ((f * 2 + 1) * H) s k) root.0

  no-half : 2 * g + t ≡ 2 * H → ⊥
  no-half e =
      let a : t ≡ 0 = omega arith in
      let b : s ≡ (f * 2 + 1) * H = omega (arith, spread 1) in
      no_tie n m j f h is small least (ap (λ (z : ℕ). z * z) (sym b) ∙ whole a)

  pub rounded : {q : ℕ} → Near f (2 * g + t) (2 * (2 * H)) q → Between n q (2 * H)
  rounded (down l) = from-down (omega arith)
  rounded (up l) = subst (λ (z : ℕ). Between n z (2 * H)) (add-one f) (from_up (omega arith))
  rounded (tie e) = absurd (no-half (omega arith))
