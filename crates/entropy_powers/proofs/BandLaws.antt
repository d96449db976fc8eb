-- The band of a number and a larger one: what its doublings are, how wide it is, and that nothing overflows. Assumes nothing.
use mathlib.Core.Path.{◌≡◌, refl, sym, ap, subst, ◌∙◌}
use mathlib.Core.Bool.{Bool, true, false, cond}
use mathlib.Core.Logic.{◌⊎◌, inl, inr}
use Prim.Native.Nat.{ℕ, suc, ◌+◌, ◌-◌, ◌*◌, ◌%◌, ◌^◌, ◌≤◌, ◌<◌}
use native.Mathlib.Nat.{mul-le-mul_right}
use native.Mathlib.Omega.{arith}
use borrow.Author.Tests.{leb-true, leb-false, eq-eqb, ne_eqb}
use lib.Dec.{leb, eqb}
use lib.Count.{count_leading_zeros, leading_top}
use lib.Pow.{pow-add, shl_lt, shl_exact}
use Rattle.entropy_powers.specs.declared.Powers.{Powers}
use Rattle.entropy_powers.specs.Powers.{PowersSized, full_of, powers_of, doublings_of, between_of, band_at, band_of}
use Rattle.entropy_powers.proofs.SquaringLaws.{narrow-all}

-- ---- the doublings

-- the three cases
abbrev pub Doubled : ℕ → ℕ → ℕ → Type 0
Doubled b a d = ((d ≡ 0) × (b ≤ a)) ⊎ (((d ≡ 1) × (a < b) × (b ≤ 2 * a)) ⊎ ((d ≡ 2) × (2 * a < b)))

pub doubled : (b a : ℕ) → Doubled b a (doublings_of b a)
unfolding doublings_of
doubled b a = go (leb b a) refl (leb b (2 * a)) refl
  where
    go : (s : Bool) → leb b a ≡ s → (t : Bool) → leb b (2 * a) ≡ t → Doubled b a (cond s 0 (cond t 1 2))
    go true e t f = inl (refl, leb-true b a e)
    go false e true f = inr (inl (refl, leb-false b a e, leb-true b (2 * a) f))
    go false e false f = inr (inr (refl, leb-false b (2 * a) f))

pub doublings-few : (b a : ℕ) → doublings_of b a ≤ 2
doublings-few b a = go (doublings_of b a) (doubled b a)
  where
    go : (d : ℕ) → Doubled b a d → d ≤ 2
    go d (inl x) = omega (arith, x.0)
    go d (inr (inl x)) = omega (arith, x.0)
    go d (inr (inr x)) = omega (arith, x.0)

pub made-few : (o b a : ℕ) → o ≡ doublings_of b a → o ≤ 2
made-few o b a e = omega (arith, e, doublings-few b a)

-- ---- the band's two cases

module _ (p q : Powers) where
  pub band-same : p.digits ≡ q.digits → band_at (4096 * (p.up - q.up)) (4096 * (p.up - q.up)) ≡ band_of p q
  unfolding band_of
  band-same h = let e : eqb p.digits q.digits ≡ true = eq-eqb p.digits q.digits h in rw e

  pub band-apart : (p.digits ≡ q.digits → ⊥) → band_at (between_of p q - doublings_of p.high q.low) (between_of p q + doublings_of q.high p.low) ≡ band_of p q
  unfolding band_of
  band-apart h = let e : eqb p.digits q.digits ≡ false = ne_eqb p.digits q.digits h in rw e

  module _ (s : PowersSized p) (t : PowersSized q) where
    between-small : between_of p q ≤ 2 ^ 18 - 2
    unfolding between_of
    between-small = omega (arith, s.up-few, t.power_small)

    pub band-small : ((band_of p q).low ≤ 2 ^ 18) × ((band_of p q).high ≤ 2 ^ 18)
    unfolding band_of
    band-small = go (eqb p.digits q.digits)
      where
        go : (b : Bool) → ((cond b (band_at (4096 * (p.up - q.up)) (4096 * (p.up - q.up))) (band_at (between_of p q - doublings_of p.high q.low) (between_of p q + doublings_of q.high p.low))).low ≤ 2 ^ 18)
            × ((cond b (band_at (4096 * (p.up - q.up)) (4096 * (p.up - q.up))) (band_at (between_of p q - doublings_of p.high q.low) (between_of p q + doublings_of q.high p.low))).high ≤ 2 ^ 18)
        go true = (omega (arith, s.up-few), omega (arith, s.up-few))
        go false = (omega (arith, between-small), omega (arith, between-small, doublings-few q.high p.low))

    -- at most 2 apart
    pub band-width : (band_of p q).high ≤ (band_of p q).low + 2
    unfolding band_of
    band-width = go (eqb p.digits q.digits)
      where
        -- no two of the bounds are more than 2^25 apart, so not both ends give way
        wide : (d u o : ℕ) → Doubled p.high q.low u → Doubled q.high p.low o → d + o ≤ d - u + 2
        wide d u o (inl x) (inl y) = omega (arith, x.0, y.0)
        wide d u o (inl x) (inr (inl y)) = omega (arith, x.0, y.0)
        wide d u o (inl x) (inr (inr y)) = omega (arith, x.0, y.0)
        wide d u o (inr (inl x)) (inl y) = omega (arith, x.0, y.0)
        wide d u o (inr (inl x)) (inr (inl y)) = omega (arith, x.0, y.0)
        wide d u o (inr (inl x)) (inr (inr y)) = absurd (omega (arith, x.1, y.1, s.near, s.least, t.near, t.least))
        wide d u o (inr (inr x)) (inl y) = omega (arith, x.0, y.0)
        wide d u o (inr (inr x)) (inr (inl y)) = absurd (omega (arith, x.1, y.1, s.near, s.least, t.near, t.least))
        wide d u o (inr (inr x)) (inr (inr y)) = absurd (omega (arith, x.1, y.1, s.near, s.least, t.near, t.least))

        go : (b : Bool) → (cond b (band_at (4096 * (p.up - q.up)) (4096 * (p.up - q.up))) (band_at (between_of p q - doublings_of p.high q.low) (between_of p q + doublings_of q.high p.low))).high
            ≤ (cond b (band_at (4096 * (p.up - q.up)) (4096 * (p.up - q.up))) (band_at (between_of p q - doublings_of p.high q.low) (between_of p q + doublings_of q.high p.low))).low + 2
        go true = omega arith
        go false = wide (between_of p q) (doublings_of p.high q.low) (doublings_of q.high p.low) (doubled p.high q.low) (doubled q.high p.low)

-- ---- the powers of a number

module _ (x : ℕ) (some : 0 < x) (few : x < 2 ^ 32) where
  top : (j : ℕ) × (count_leading_zeros 32 x + suc j ≡ 32) × (2 ^ j ≤ x) × (x < 2 ^ suc j)
  top = leading_top 32 x some few

  pub up-most : count_leading_zeros 32 x ≤ 31
  up-most = omega (arith, top.1)

  pub full-least : 2 ^ 31 ≤ full_of x
  unfolding full_of
  full-least =
      let e : top.0 + count_leading_zeros 32 x ≡ 31 = omega (arith, top.1) in
      let f : 2 ^ top.0 * 2 ^ count_leading_zeros 32 x ≡ 2 ^ 31 = sym (pow-add 2 top.0 (count_leading_zeros 32 x)) ∙ ap (λ (y : ℕ). 2 ^ y) e in
      let g : 2 ^ top.0 * 2 ^ count_leading_zeros 32 x ≤ x * 2 ^ count_leading_zeros 32 x = mul-le-mul_right (2 ^ count_leading_zeros 32 x) top.2 in
      omega (arith, f, g)

  pub full-most : full_of x < 2 ^ 32
  unfolding full_of
  full-most =
      let e : suc top.0 + count_leading_zeros 32 x ≡ 32 = omega (arith, top.1) in
      subst (λ (y : ℕ). x * 2 ^ count_leading_zeros 32 x < 2 ^ y) e (shl_lt (suc top.0) (count_leading_zeros 32 x) top.3)

  -- the shift drops nothing
  pub full_is : x * 2 ^ count_leading_zeros 32 x % 2 ^ 64 ≡ full_of x
  unfolding full_of
  full_is = shl_exact (suc top.0) (count_leading_zeros 32 x) 64 top.3 (omega (arith, top.1))

  pub moved_in : (2 ^ 31 ≤ x * 2 ^ count_leading_zeros 32 x % 2 ^ 64) × (x * 2 ^ count_leading_zeros 32 x % 2 ^ 64 < 2 ^ 32)
  moved_in = rw full_is (full-least, full-most)

  pub powers-sized : PowersSized (powers_of x)
  unfolding powers_of
  powers-sized =
      let n = narrow-all 12 (full_of x) full-least full-most (omega arith) in
      record { up-few = up-most; least = n.least; most = n.most; order = n.order; near = n.near; power_small = n.power_small }
