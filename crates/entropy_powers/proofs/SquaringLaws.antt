-- The squarings keep the bounds: 31 digits, near to each other, and on both sides of the power. Assumes nothing.
use mathlib.Core.Path.{◌≡◌, refl, sym, ap, subst, ◌∙◌}
use mathlib.Core.Bool.{Bool, true, false, cond}
use Prim.Native.Nat.{ℕ, zero, suc, ◌+◌, ◌-◌, ◌*◌, ◌^◌, ◌≤◌, ◌<◌}
use native.Mathlib.Nat.{mul-le-mul, mul-le-mul_left, mul-le-mul_right, mul_comm, add-mul, mul-add, lt_of_not-le}
use native.Mathlib.Decide.{dec_le}
use native.Mathlib.Omega.{arith}
use borrow.Author.Tests.{ltb-true, ltb-false}
use lib.Dec.{ltb}
use lib.Pow.{pow-add, pow_mono}
use Rattle.entropy_powers.specs.declared.Bounds.{Bounds}
use Rattle.entropy_powers.specs.Powers.{Narrow, halves_of, rounded_to, squared_of, squarings}

-- ---- numbers

-- a square by a smaller one
square-gap : (a g : ℕ) → (a + g) * (a + g) ≡ a * a + g * (a + a + g)
square-gap a g =
    let p = add-mul a g (a + g) in
    let q = mul-add a a g in
    let r = mul-add g (a + a) g in
    let s = mul-add g a g in
    let t = mul-add g a a in
    let u = mul_comm a g in
    omega (arith, p, q, r, s, t, u)

-- the square of the high bound is not far above that of the low one
gap-most : (a b c w : ℕ) → a ≤ b → b < a + w → a + b ≤ c → b * b + c ≤ a * a + w * c
gap-most a b c w o n h =
    let g = b - a in
    let e : a + g ≡ b = omega arith in
    let s : b * b ≡ a * a + g * (a + a + g) = subst (λ (x : ℕ). x * x ≡ a * a + g * (a + a + g)) e (square-gap a g) in
    let m : g * (a + a + g) ≤ g * c = mul-le-mul_left g (omega arith) in
    let k : suc g * c ≤ w * c = mul-le-mul_right c (omega arith) in
    let l : suc g * c ≡ g * c + c = omega arith in
    omega (arith, s, m, k, l)

four-fold : (k : ℕ) → 2 ^ (2 * suc k + 1) ≡ 4 * 2 ^ (2 * k + 1)
four-fold k = ap (λ (x : ℕ). 2 ^ x) (omega arith) ∙ pow-add 2 2 (2 * k + 1)

two-fold : (k : ℕ) → 2 ^ (suc k + 5) ≡ 2 * 2 ^ (k + 5)
two-fold k = ap (λ (x : ℕ). 2 ^ x) (omega arith) ∙ pow-add 2 1 (k + 5)

-- ---- a step

module _ (k : ℕ) (b : Bounds) (n : Narrow k b) (h : k < 12) where
  width-most : 2 ^ (2 * k + 1) ≤ 2 ^ 23
  width-most = pow_mono {i = 2 * k + 1} {j = 23} (omega arith)

  -- shift 30: the low bound's square is below 2^61
  narrow-30 : b.low * b.low < 2 ^ 61 → Narrow (suc k) (rounded_to 30 b)
  unfolding rounded_to
  narrow-30 l =
      let w = 2 ^ (2 * k + 1) in
      let top : b.low < 3 * 2 ^ 29 = go (dec_le (3 * 2 ^ 29) b.low) in
      let g = gap-most b.low b.high (2 ^ 32) w n.order n.near (omega (arith, top, n.near, width-most)) in
      let m : b.low * b.low ≤ b.high * b.high = mul-le-mul n.order n.order in
      let p : 2 ^ 30 * 2 ^ 30 ≤ b.low * b.low = mul-le-mul n.least n.least in
      record {
        least = omega (arith, p);
        most = omega (arith, l);
        order = omega (arith, m);
        near = omega (arith, g, four-fold k);
        power_small = omega (arith, n.power_small, two-fold k);
      }
    where
      go : Dec (3 * 2 ^ 29 ≤ b.low) → b.low < 3 * 2 ^ 29
      go (yes q) = let z : 3 * 2 ^ 29 * (3 * 2 ^ 29) ≤ b.low * b.low = mul-le-mul q q in absurd (omega (arith, l, z))
      go (no q) = lt_of_not-le q

  -- shift 31
  narrow-31 : 2 ^ 61 ≤ b.low * b.low → Narrow (suc k) (rounded_to 31 b)
  unfolding rounded_to
  narrow-31 l =
      let w = 2 ^ (2 * k + 1) in
      let g = gap-most b.low b.high (2 ^ 33) w n.order n.near (omega (arith, n.most, n.near, width-most)) in
      let m : b.low * b.low ≤ b.high * b.high = mul-le-mul n.order n.order in
      let s : b.low ≤ 2 ^ 31 - 1 = omega (arith, n.most) in
      let q : b.low * b.low ≤ (2 ^ 31 - 1) * (2 ^ 31 - 1) = mul-le-mul s s in
      record {
        least = omega (arith, l);
        most = omega (arith, q);
        order = omega (arith, m);
        near = omega (arith, g, four-fold k);
        power_small = omega (arith, n.power_small, two-fold k);
      }

  pub narrow-more : Narrow (suc k) (squared_of b)
  unfolding squared_of
  narrow-more = go (ltb (b.low * b.low) (2 ^ 61)) refl
    where
      go : (t : Bool) → ltb (b.low * b.low) (2 ^ 61) ≡ t → Narrow (suc k) (cond t (rounded_to 30 b) (rounded_to 31 b))
      go true e = narrow-30 (ltb-true (b.low * b.low) (2 ^ 61) e)
      go false e = narrow-31 (ltb-false (b.low * b.low) (2 ^ 61) e)

pub narrow-none : (y : ℕ) → 2 ^ 31 ≤ y → y < 2 ^ 32 → Narrow 0 (halves_of y)
unfolding halves_of
narrow-none y l h = record { least = omega arith; most = omega arith; order = omega arith; near = omega arith; power_small = omega arith }

pub squarings-none : (b : Bounds) → squarings zero b ≡ b
unfolding squarings
squarings-none b = refl

pub squarings-more : (k : ℕ) (b : Bounds) → squarings (suc k) b ≡ squared_of (squarings k b)
unfolding squarings
squarings-more k b = refl

pub narrow-all : (k y : ℕ) → 2 ^ 31 ≤ y → y < 2 ^ 32 → k ≤ 12 → Narrow k (squarings k (halves_of y))
narrow-all zero y l h m = subst (Narrow 0) (sym (squarings-none (halves_of y))) (narrow-none y l h)
narrow-all (suc k) y l h m =
    subst (Narrow (suc k)) (sym (squarings-more k (halves_of y)))
    (narrow-more k (squarings k (halves_of y)) (narrow-all k y l h (omega arith)) (omega arith))

-- ---- what the code needs

-- fewer squarings leave the bounds nearer
pub narrow-less : (k : ℕ) (b : Bounds) → k ≤ 11 → Narrow k b → Narrow 11 b
narrow-less k b h n =
    let p : 2 ^ (2 * k + 1) ≤ 2 ^ 23 = pow_mono {i = 2 * k + 1} {j = 23} (omega arith) in
    let q : 2 ^ (k + 5) ≤ 2 ^ 16 = pow_mono {i = k + 5} {j = 16} (omega arith) in
    record {
      least = n.least;
      most = n.most;
      order = n.order;
      near = omega (arith, n.near, p);
      power_small = omega (arith, n.power_small, q);
    }

pub low_fits : (b : Bounds) → Narrow 11 b → b.low * b.low < 2 ^ 62
low_fits b n =
    let s : b.low ≤ 2 ^ 31 - 1 = omega (arith, n.most) in
    let q : b.low * b.low ≤ (2 ^ 31 - 1) * (2 ^ 31 - 1) = mul-le-mul s s in
    omega (arith, q)

pub high_fits : (b : Bounds) → Narrow 11 b → b.high * b.high < 2 ^ 63
high_fits b n =
    let s : b.high ≤ 2 ^ 31 + 2 ^ 23 = omega (arith, n.most, n.near) in
    let q : b.high * b.high ≤ (2 ^ 31 + 2 ^ 23) * (2 ^ 31 + 2 ^ 23) = mul-le-mul s s in
    omega (arith, q)

-- ---- the loop: after k squarings the bounds are those of the definition

pub record Squared (y k : ℕ) (b : Bounds) : Type 0 where
  pub most : k ≤ 12
  pub is : b ≡ squarings k (halves_of y)

module _ (y : ℕ) (lo : 2 ^ 31 ≤ y) (hi : y < 2 ^ 32) where
  pub squared-narrow : (k : ℕ) (b : Bounds) → k < 12 → Squared y k b → Narrow 11 b
  squared-narrow k b h s = subst (Narrow 11) (sym s.is) (narrow-less k (squarings k (halves_of y)) (omega arith) (narrow-all k y lo hi s.most))
