-- The bounds lie on both sides of the 4096th power, and the band's ends on both sides of the powers of two between two such powers. Assumes nothing.
use mathlib.Core.Path.{◌≡◌, refl, sym, ap, ap₂, subst, ◌∙◌}
use mathlib.Core.Bool.{Bool, true, false, cond}
use mathlib.Core.Logic.{inl, inr}
use Prim.Native.Nat.{ℕ, zero, suc, ◌+◌, ◌-◌, ◌*◌, ◌/◌, ◌^◌, ◌≤◌, ◌<◌}
use native.Mathlib.Nat.{mul-le-mul, mul-le-mul_left, mul-le-mul_right, le_of_mul-le-mul_right, eq_of_mul-eq-mul_left, mul_comm, mul_assoc, mul_left_comm, mul-one, one-mul, zero-mul, le_trans, le_of_eq, lt_of_not-le, mul-pos, pow-zero, pow-suc, two-pow-succ, pow-le-pow_left, div-mul-le_self, lt-div-mul-add, mul-lt-mul_of_pos_right}
use native.Mathlib.Decide.{dec_le}
use native.Mathlib.Omega.{arith}
use borrow.Author.Tests.{eqb-true, eqb-false}
use lib.Dec.{ltb, eqb}
use lib.Count.{count_leading_zeros}
use lib.Pow.{pow-add, pow_pos, pow_mono, pow-lt}
use Rattle.entropy_powers.specs.declared.Bounds.{Bounds}
use Rattle.entropy_powers.specs.declared.Powers.{Powers}
use Rattle.entropy_powers.specs.declared.Band.{Band}
use Rattle.entropy_powers.specs.Powers.{PowersSized, halves_of, rounded_to, squared_of, squarings, full_of, powers_of, doublings_of, between_of, band_of}
use Rattle.entropy_powers.proofs.SquaringLaws.{squarings-none, squarings-more}
use Rattle.entropy_powers.proofs.BandLaws.{Doubled, doubled, band-same, band-apart, powers-sized, full-least, full-most}

-- ---- powers

pub mul-pow : (a b n : ℕ) → (a * b) ^ n ≡ a ^ n * b ^ n
mul-pow a b zero = pow-zero (a * b) ∙ ap₂ (λ (x y : ℕ). x * y) (sym (pow-zero a)) (sym (pow-zero b))
mul-pow a b (suc n) =
    pow-suc (a * b) n ∙ ap (λ (x : ℕ). x * (a * b)) (mul-pow a b n) ∙ swap (a ^ n) (b ^ n)
    ∙ ap₂ (λ (x y : ℕ). x * y) (sym (pow-suc a n)) (sym (pow-suc b n))
  where
    swap : (x y : ℕ) → x * y * (a * b) ≡ x * a * (y * b)
    swap x y = simp (mul_assoc, mul_comm, mul_left_comm)

pub pow-pow : (a s n : ℕ) → (a ^ s) ^ n ≡ a ^ (n * s)
pow-pow a s zero = pow-zero (a ^ s) ∙ sym (pow-zero a) ∙ ap (λ (x : ℕ). a ^ x) (sym (zero-mul s))
pow-pow a s (suc n) =
    let e : suc n * s ≡ n * s + s = omega arith in
    pow-suc (a ^ s) n ∙ ap (λ (x : ℕ). x * a ^ s) (pow-pow a s n) ∙ sym (pow-add a (n * s) s) ∙ ap (λ (x : ℕ). a ^ x) (sym e)

moved-pow : (x s n : ℕ) → (x * 2 ^ s) ^ n ≡ x ^ n * 2 ^ (n * s)
moved-pow x s n = mul-pow x (2 ^ s) n ∙ ap (λ (y : ℕ). x ^ n * y) (pow-pow 2 s n)

-- ---- the bounds

pub record Around (y low high power : ℕ) : Type 0 where
  pub under : low * 2 ^ power ≤ y
  pub over : y ≤ high * 2 ^ power

around-none : (y : ℕ) → Around y (halves_of y).low (halves_of y).high (halves_of y).power
unfolding halves_of
around-none y = record { under = omega arith; over = omega arith }

-- the power of a rounded square
power-up : (p t : ℕ) → 2 ^ (2 * p + t) ≡ 2 ^ t * (2 ^ p * 2 ^ p)
power-up p t =
    let e : 2 * p + t ≡ t + (p + p) = omega arith in
    ap (λ (x : ℕ). 2 ^ x) e ∙ pow-add 2 t (p + p) ∙ ap (λ (x : ℕ). 2 ^ t * x) (pow-add 2 p p)

squares : (a b : ℕ) → a * a * (b * b) ≡ a * b * (a * b)
squares a b = simp (mul_assoc, mul_left_comm)

up-quotient : (h t : ℕ) → 0 < t → h ≤ (h + (t - 1)) / t * t
up-quotient h t p =
    let l : h + (t - 1) < (h + (t - 1)) / t * t + t = lt-div-mul-add p in
    omega (arith, l, p)

module _ (y t : ℕ) (b : Bounds) (a : Around y b.low b.high b.power) where
  abbrev twice : ℕ
  twice = 2 ^ b.power * 2 ^ b.power

  around-rounded : Around (y * y) (rounded_to t b).low (rounded_to t b).high (rounded_to t b).power
  unfolding rounded_to
  around-rounded = record {
    under =
        le_trans (le_of_eq (ap (λ (x : ℕ). b.low * b.low / 2 ^ t * x) (power-up b.power t) ∙ sym (mul_assoc (b.low * b.low / 2 ^ t) (2 ^ t) twice)))
        (le_trans (mul-le-mul_right twice (div-mul-le_self (b.low * b.low) (2 ^ t)))
        (le_trans (le_of_eq (squares b.low (2 ^ b.power))) (mul-le-mul a.under a.under)));
    over =
        le_trans (mul-le-mul a.over a.over)
        (le_trans (le_of_eq (sym (squares b.high (2 ^ b.power))))
        (le_trans (mul-le-mul_right twice (up-quotient (b.high * b.high) (2 ^ t) (pow_pos t)))
        (le_of_eq (mul_assoc ((b.high * b.high + (2 ^ t - 1)) / 2 ^ t) (2 ^ t) twice ∙ ap (λ (x : ℕ). (b.high * b.high + (2 ^ t - 1)) / 2 ^ t * x) (sym (power-up b.power t))))));
  }

around-squared : (y : ℕ) (b : Bounds) → Around y b.low b.high b.power → Around (y * y) (squared_of b).low (squared_of b).high (squared_of b).power
unfolding squared_of
around-squared y b a = go (ltb (b.low * b.low) (2 ^ 61))
  where
    go : (s : Bool)
        → Around (y * y) (cond s (rounded_to 30 b) (rounded_to 31 b)).low (cond s (rounded_to 30 b) (rounded_to 31 b)).high (cond s (rounded_to 30 b) (rounded_to 31 b)).power
    go true = around-rounded y 30 b a
    go false = around-rounded y 31 b a

abbrev AroundBy : ℕ → Bounds → Type 0
AroundBy y b = Around y b.low b.high b.power

pow-one : (y : ℕ) → y ^ 1 ≡ y
pow-one y = pow-suc y 0 ∙ ap (λ (x : ℕ). x * y) (pow-zero y) ∙ one-mul y

pow-double : (y k : ℕ) → y ^ (2 ^ suc k) ≡ y ^ (2 ^ k) * y ^ (2 ^ k)
pow-double y k = ap (λ (x : ℕ). y ^ x) (two-pow-succ k) ∙ pow-add y (2 ^ k) (2 ^ k)

around-all : (k y : ℕ) → AroundBy (y ^ (2 ^ k)) (squarings k (halves_of y))
around-all zero y = subst (AroundBy (y ^ (2 ^ 0))) (sym (squarings-none (halves_of y))) (subst (λ (x : ℕ). AroundBy x (halves_of y)) (sym (pow-one y)) (around-none y))
around-all (suc k) y =
    subst (AroundBy (y ^ (2 ^ suc k))) (sym (squarings-more k (halves_of y)))
    (subst (λ (x : ℕ). AroundBy x (squared_of (squarings k (halves_of y)))) (sym (pow-double y k)) (around-squared (y ^ (2 ^ k)) (squarings k (halves_of y)) (around-all k y)))

-- of the 4096th power of a number, moved up
pub around-power : (x : ℕ) → Around (x ^ 4096 * 2 ^ (4096 * (powers_of x).up)) (powers_of x).low (powers_of x).high (powers_of x).power
unfolding powers_of full_of
around-power x = subst (λ (z : ℕ). AroundBy z (squarings 12 (halves_of (x * 2 ^ count_leading_zeros 32 x)))) (moved-pow x (count_leading_zeros 32 x) 4096) (around-all 12 (x * 2 ^ count_leading_zeros 32 x))

-- ---- two such powers

module _ (x y A B P Q : ℕ) (pa : 0 < A) (pb : 0 < B) where
  pub chain-low : (b a L U : ℕ) → x * A ≤ b * P → a * Q ≤ y * B → b ≤ U * a → L * U * (P * B) ≡ Q * A → L * x ≤ y
  chain-low b a L U h k d e =
      le_of_mul-le-mul_right {k = A * B}
      (le_trans (le_of_eq one)
      (le_trans (mul-le-mul_left (L * B) h)
      (le_trans (mul-le-mul_left (L * B) (mul-le-mul_right P d))
      (le_trans (le_of_eq (two ∙ ap (λ (z : ℕ). a * z) e ∙ sym (mul_assoc a Q A)))
      (le_trans (mul-le-mul_right A k) (le_of_eq three))))))
      (mul-pos pa pb)
    where
      one : L * x * (A * B) ≡ L * B * (x * A)
      one = simp (mul_assoc, mul_comm, mul_left_comm)

      two : L * B * (U * a * P) ≡ a * (L * U * (P * B))
      two = simp (mul_assoc, mul_comm, mul_left_comm)

      three : y * B * A ≡ y * (A * B)
      three = simp (mul_assoc, mul_comm)

  pub chain-high : (b a D O : ℕ) → y * B ≤ b * Q → a * P ≤ x * A → b ≤ O * a → Q * A ≤ D * (P * B) → y ≤ D * O * x
  chain-high b a D O h k d e =
      le_of_mul-le-mul_right {k = A * B}
      (le_trans (le_of_eq one)
      (le_trans (mul-le-mul_left A h)
      (le_trans (mul-le-mul_left A (mul-le-mul_right Q d))
      (le_trans (le_of_eq two)
      (le_trans (mul-le-mul_left (O * a) e)
      (le_trans (le_of_eq three)
      (le_trans (mul-le-mul_left (O * D * B) k) (le_of_eq four))))))))
      (mul-pos pa pb)
    where
      one : y * (A * B) ≡ A * (y * B)
      one = mul_left_comm y A B

      two : A * (O * a * Q) ≡ O * a * (Q * A)
      two = simp (mul_assoc, mul_comm, mul_left_comm)

      three : O * a * (D * (P * B)) ≡ O * D * B * (a * P)
      three = simp (mul_assoc, mul_comm, mul_left_comm)

      four : O * D * B * (x * A) ≡ D * O * x * (A * B)
      four = simp (mul_assoc, mul_comm, mul_left_comm)

-- the high bound of one is at most the low bound of another, doubled so often
covered : (p q : Powers) → PowersSized p → PowersSized q → p.high ≤ 2 ^ doublings_of p.high q.low * q.low
covered p q s t = go (doublings_of p.high q.low) (doubled p.high q.low)
  where
    go : (d : ℕ) → Doubled p.high q.low d → p.high ≤ 2 ^ d * q.low
    go d (inl x) = rw x.0 (omega (arith, x.1))
    go d (inr (inl x)) = rw x.0 (omega (arith, x.2))
    go d (inr (inr x)) = rw x.0 (omega (arith, s.near, s.most, t.least))

module _ (w all : ℕ) (some : 0 < w) (part : w ≤ all) (few : all < 2 ^ 32) where
  abbrev p : Powers
  p = powers_of w

  abbrev q : Powers
  q = powers_of all

  p-sized : PowersSized p
  p-sized = powers-sized w some (omega arith)

  q-sized : PowersSized q
  q-sized = powers-sized all (omega arith) few

  -- the digits differ
  abbrev between : ℕ
  between = (q.power + 4096 * p.up) - (p.power + 4096 * q.up)

  powers-low : (lo u : ℕ) → lo ≡ between - u → 1 ≤ lo → 2 ^ lo * 2 ^ u * (2 ^ p.power * 2 ^ (4096 * q.up)) ≡ 2 ^ q.power * 2 ^ (4096 * p.up)
  powers-low lo u is h =
      let e : lo + u + (p.power + 4096 * q.up) ≡ q.power + 4096 * p.up = omega (arith, h, is) in
      ap₂ (λ (x y : ℕ). x * y) (sym (pow-add 2 lo u)) (sym (pow-add 2 p.power (4096 * q.up)))
      ∙ sym (pow-add 2 (lo + u) (p.power + 4096 * q.up))
      ∙ ap (λ (x : ℕ). 2 ^ x) e
      ∙ pow-add 2 q.power (4096 * p.up)

  low_by : (lo u : ℕ) → lo ≡ between - u → p.high ≤ 2 ^ u * q.low → 2 ^ lo * w ^ 4096 ≤ all ^ 4096
  low_by lo u is h = go (dec_le 1 lo)
    where
      go : Dec (1 ≤ lo) → 2 ^ lo * w ^ 4096 ≤ all ^ 4096
      go (yes k) =
          chain-low (w ^ 4096) (all ^ 4096) (2 ^ (4096 * p.up)) (2 ^ (4096 * q.up)) (2 ^ p.power) (2 ^ q.power) (pow_pos (4096 * p.up)) (pow_pos (4096 * q.up))
          p.high q.low (2 ^ lo) (2 ^ u) (around-power w).over (around-power all).under h (powers-low lo u is k)
      go (no k) =
          let z : lo ≡ 0 = omega (arith, lt_of_not-le k) in
          le_trans (le_of_eq (ap (λ (x : ℕ). 2 ^ x * w ^ 4096) z ∙ one-mul (w ^ 4096))) (pow-le-pow_left part 4096)

  powers-high : (d : ℕ) → d ≡ between → 2 ^ q.power * 2 ^ (4096 * p.up) ≤ 2 ^ d * (2 ^ p.power * 2 ^ (4096 * q.up))
  powers-high d is =
      let e : q.power + 4096 * p.up ≤ d + (p.power + 4096 * q.up) = omega (arith, is) in
      le_trans (le_of_eq (sym (pow-add 2 q.power (4096 * p.up))))
      (le_trans (pow_mono e)
      (le_of_eq (pow-add 2 d (p.power + 4096 * q.up) ∙ ap (λ (x : ℕ). 2 ^ d * x) (pow-add 2 p.power (4096 * q.up)))))

  high-by : (d o : ℕ) → d ≡ between → q.high ≤ 2 ^ o * p.low → all ^ 4096 ≤ 2 ^ (d + o) * w ^ 4096
  high-by d o is h =
      le_trans
      (chain-high (w ^ 4096) (all ^ 4096) (2 ^ (4096 * p.up)) (2 ^ (4096 * q.up)) (2 ^ p.power) (2 ^ q.power) (pow_pos (4096 * p.up)) (pow_pos (4096 * q.up))
      q.high p.low (2 ^ d) (2 ^ o) (around-power all).over (around-power w).under h (powers-high d is))
      (le_of_eq (ap (λ (x : ℕ). x * w ^ 4096) (sym (pow-add 2 d o))))

  apart_low : 2 ^ (between_of p q - doublings_of p.high q.low) * w ^ 4096 ≤ all ^ 4096
  unfolding between_of
  apart_low = low_by (between - doublings_of p.high q.low) (doublings_of p.high q.low) refl (covered p q p-sized q-sized)

  apart-high : all ^ 4096 ≤ 2 ^ (between_of p q + doublings_of q.high p.low) * w ^ 4096
  unfolding between_of
  apart-high = high-by between (doublings_of q.high p.low) refl (covered q p q-sized p-sized)

-- ---- the digits agree

-- the smaller number was moved up by more
moved_more : (w all s t : ℕ) → 0 < w → w ≤ all → w * 2 ^ s ≡ all * 2 ^ t → t ≤ s
moved_more w all s t p h e = go (dec_le t s)
  where
    go : Dec (t ≤ s) → t ≤ s
    go (yes k) = k
    go (no k) =
        let l : w * 2 ^ s < w * 2 ^ t = lt-times p (pow-lt {i = s} {j = t} (lt_of_not-le k)) in
        let m : w * 2 ^ t ≤ all * 2 ^ t = mul-le-mul_right (2 ^ t) h in
        absurd (omega (arith, e, l, m))
      where
        lt-times : {a b c : ℕ} → 0 < a → b < c → a * b < a * c
        lt-times {a} {b} {c} x y = subst (λ (z : ℕ). z < a * c) (mul_comm b a) (subst (λ (z : ℕ). b * a < z) (mul_comm c a) (mul-lt-mul_of_pos_right y x))

-- then it is the larger one, times a power of two
same-is : (w all s t : ℕ) → t ≤ s → w * 2 ^ s ≡ all * 2 ^ t → all ≡ w * 2 ^ (s - t)
same-is w all s t h e =
    let z : s ≡ t + (s - t) = omega arith in
    eq_of_mul-eq-mul_left (2 ^ t) (pow_pos t) all (w * 2 ^ (s - t))
    (mul_comm (2 ^ t) all ∙ sym e ∙ ap (λ (x : ℕ). w * 2 ^ x) z ∙ ap (λ (x : ℕ). w * x) (pow-add 2 t (s - t)) ∙ mul_left_comm w (2 ^ t) (2 ^ (s - t)))

-- and so is its power
same_power : (w all k n : ℕ) → all ≡ w * 2 ^ k → all ^ n ≡ 2 ^ (n * k) * w ^ n
same_power w all k n e = ap (λ (x : ℕ). x ^ n) e ∙ moved-pow w k n ∙ mul_comm (w ^ n) (2 ^ (n * k))

-- ---- both

digits-is : (x : ℕ) → (powers_of x).digits ≡ x * 2 ^ (powers_of x).up
unfolding powers_of full_of
digits-is x = refl

full-digits : (x : ℕ) → full_of x ≡ x * 2 ^ (powers_of x).up
unfolding powers_of full_of
full-digits x = refl

module _ (w all : ℕ) (some : 0 < w) (part : w ≤ all) (few : all < 2 ^ 32) where
  exact-power : (powers_of w).digits ≡ (powers_of all).digits → all ^ 4096 ≡ 2 ^ (4096 * ((powers_of w).up - (powers_of all).up)) * w ^ 4096
  exact-power h =
      let e : w * 2 ^ (powers_of w).up ≡ all * 2 ^ (powers_of all).up = sym (digits-is w) ∙ h ∙ digits-is all in
      same_power w all ((powers_of w).up - (powers_of all).up) 4096 (same-is w all (powers_of w).up (powers_of all).up (moved_more w all (powers_of w).up (powers_of all).up some part e) e)

  pub lower : 2 ^ (band_of (powers_of w) (powers_of all)).low * w ^ 4096 ≤ all ^ 4096
  lower = go (eqb (powers_of w).digits (powers_of all).digits) refl
    where
      go : (b : Bool) → eqb (powers_of w).digits (powers_of all).digits ≡ b → 2 ^ (band_of (powers_of w) (powers_of all)).low * w ^ 4096 ≤ all ^ 4096
      go true e =
          let h = eqb-true (powers_of w).digits (powers_of all).digits e in
          subst (λ (x : Band). 2 ^ x.low * w ^ 4096 ≤ all ^ 4096) (band-same (powers_of w) (powers_of all) h) (le_of_eq (sym (exact-power h)))
      go false e =
          subst (λ (x : Band). 2 ^ x.low * w ^ 4096 ≤ all ^ 4096) (band-apart (powers_of w) (powers_of all) (eqb-false (powers_of w).digits (powers_of all).digits e)) (apart_low w all some part few)

  pub upper : all ^ 4096 ≤ 2 ^ (band_of (powers_of w) (powers_of all)).high * w ^ 4096
  upper = go (eqb (powers_of w).digits (powers_of all).digits) refl
    where
      go : (b : Bool) → eqb (powers_of w).digits (powers_of all).digits ≡ b → all ^ 4096 ≤ 2 ^ (band_of (powers_of w) (powers_of all)).high * w ^ 4096
      go true e =
          let h = eqb-true (powers_of w).digits (powers_of all).digits e in
          subst (λ (x : Band). all ^ 4096 ≤ 2 ^ x.high * w ^ 4096) (band-same (powers_of w) (powers_of all) h) (le_of_eq (exact-power h))
      go false e =
          subst (λ (x : Band). all ^ 4096 ≤ 2 ^ x.high * w ^ 4096) (band-apart (powers_of w) (powers_of all) (eqb-false (powers_of w).digits (powers_of all).digits e)) (apart-high w all some part few)

-- ---- a power of two apart

-- 32 digits with the highest set, of one number: moved up by the same
same_up : (w s t : ℕ) → 2 ^ 31 ≤ w * 2 ^ s → w * 2 ^ s < 2 ^ 32 → 2 ^ 31 ≤ w * 2 ^ t → w * 2 ^ t < 2 ^ 32 → s ≤ t
same_up w s t a b c d = go (dec_le s t)
  where
    go : Dec (s ≤ t) → s ≤ t
    go (yes k) = k
    go (no k) =
        let l : 2 ^ suc t ≤ 2 ^ s = pow_mono {i = suc t} {j = s} (lt_of_not-le k) in
        let m : w * 2 ^ suc t ≤ w * 2 ^ s = mul-le-mul_left w l in
        let e : w * 2 ^ suc t ≡ w * 2 ^ t * 2 = ap (λ (x : ℕ). w * x) (pow-suc 2 t) ∙ sym (mul_assoc w (2 ^ t) 2) in
        absurd (omega (arith, b, c, m, e))

module _ (w k : ℕ) (some : 0 < w) (few : w * 2 ^ k < 2 ^ 32) where
  abbrev all : ℕ
  all = w * 2 ^ k

  larger : w ≤ all
  larger = le_trans (le_of_eq (sym (mul-one w))) (mul-le-mul_left w (pow_pos k))

  all-some : 0 < all
  all-some = mul-pos some (pow_pos k)

  again : (t : ℕ) → all * 2 ^ t ≡ w * 2 ^ (k + t)
  again t = mul_assoc w (2 ^ k) (2 ^ t) ∙ ap (λ (x : ℕ). w * x) (sym (pow-add 2 k t))

  ups : (powers_of w).up ≡ k + (powers_of all).up
  ups =
      let wl = subst (λ (x : ℕ). 2 ^ 31 ≤ x) (full-digits w) (full-least w some (lt_of w few)) in
      let wm = subst (λ (x : ℕ). x < 2 ^ 32) (full-digits w) (full-most w some (lt_of w few)) in
      let al = subst (λ (x : ℕ). 2 ^ 31 ≤ x) (full-digits all ∙ again (powers_of all).up) (full-least all all-some few) in
      let am = subst (λ (x : ℕ). x < 2 ^ 32) (full-digits all ∙ again (powers_of all).up) (full-most all all-some few) in
      let x = same_up w (powers_of w).up (k + (powers_of all).up) wl wm al am in
      let y = same_up w (k + (powers_of all).up) (powers_of w).up al am wl wm in
      omega (arith, x, y)
    where
      lt_of : (w : ℕ) → w * 2 ^ k < 2 ^ 32 → w < 2 ^ 32
      lt_of w h = let l : w * 1 ≤ w * 2 ^ k = mul-le-mul_left w (pow_pos k) in omega (arith, h, l)

  digits_same : (powers_of w).digits ≡ (powers_of all).digits
  digits_same = digits-is w ∙ ap (λ (x : ℕ). w * 2 ^ x) ups ∙ sym (again (powers_of all).up) ∙ sym (digits-is all)

  pub exact : ((band_of (powers_of w) (powers_of all)).low ≡ 4096 * k) × ((band_of (powers_of w) (powers_of all)).high ≡ 4096 * k)
  exact =
      let e : 4096 * ((powers_of w).up - (powers_of all).up) ≡ 4096 * k = ap (λ (x : ℕ). 4096 * x) (omega (arith, ups)) in (
        ap (λ (x : Band). x.low) (sym (band-same (powers_of w) (powers_of all) digits_same)) ∙ e,
        ap (λ (x : Band). x.high) (sym (band-same (powers_of w) (powers_of all) digits_same)) ∙ e,
      )
