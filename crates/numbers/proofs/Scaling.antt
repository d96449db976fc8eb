-- From a float's 53 digits and its exponent to the whole number whose root is taken, and back to bits. Assumes nothing.
use mathlib.Core.Path.{◌≡◌, sym, ap, ◌∙◌, subst}
use Prim.Native.Nat.{ℕ, suc, ◌+◌, ◌-◌, ◌*◌, ◌/◌, ◌%◌, ◌^◌, ◌≤◌, ◌<◌}
use native.Mathlib.Nat.{mul_assoc, mul-le-mul_left, mul-le-mul_right, lt_of_not-le}
use native.Mathlib.Decide.{dec_le}
use native.Mathlib.Omega.{arith}
use lib.Pow.{pow-add, pow_mono, pow_pos, shl_exact, shl_lt}
use lib.Count.{count_leading_zeros, leading_top}
use Rattle.numbers.specs.Steps.{NearestWhole, RootOf, digits, shift}

-- ---- one place more where the exponent is odd
module _ (m e : ℕ) (lo : 2 ^ 52 ≤ m) (hi : m < 2 ^ 53) where
  pub moved : m * 2 ^ (e % 2) % 2 ^ 64 ≡ m * 2 ^ (e % 2)
  moved = shl_exact 53 (e % 2) 64 hi (omega arith)

  moved-least : m ≤ m * 2 ^ (e % 2)
  moved-least = let p : m * 1 ≤ m * 2 ^ (e % 2) = mul-le-mul_left m (pow_pos (e % 2)) in omega arith

  moved-most : m * 2 ^ (e % 2) ≤ m * 2
  moved-most = mul-le-mul_left m (pow_mono {i = e % 2} {j = 1} (omega arith))

  pub in-range : (2 ^ 52 ≤ m * 2 ^ (e % 2) % 2 ^ 64) × (m * 2 ^ (e % 2) % 2 ^ 64 < 2 ^ 54 - 1)
  in-range = (omega (arith, moved, moved-least), omega (arith, moved, moved-most))

  -- ---- the bits of q * 2 ^ k units, for the q that is nearest to the root
  four : (k : ℕ) → k ≡ e / 2 + 485 → m * 2 ^ (e % 2) * 2 ^ 52 * (2 ^ k * 2 ^ k) ≡ m * 2 ^ (e + 1022)
  four k h =
      ap (λ (z : ℕ). m * 2 ^ (e % 2) * 2 ^ 52 * z) (sym (pow-add 2 k k))
      ∙ mul_assoc (m * 2 ^ (e % 2)) (2 ^ 52) (2 ^ (k + k))
      ∙ ap (λ (z : ℕ). m * 2 ^ (e % 2) * z) (sym (pow-add 2 52 (k + k)))
      ∙ mul_assoc m (2 ^ (e % 2)) (2 ^ (52 + (k + k)))
      ∙ ap (λ (z : ℕ). m * z) (sym (pow-add 2 (e % 2) (52 + (k + k))))
      ∙ ap (λ (z : ℕ). m * 2 ^ z) (exponent k h)
    where
      exponent : (k : ℕ) → k ≡ e / 2 + 485 → e % 2 + (52 + (k + k)) ≡ e + 1022
      exponent k h = omega arith

  pub packed : (q : ℕ) → e ≤ 2097 → NearestWhole (m * 2 ^ (e % 2) % 2 ^ 64 * 2 ^ 52) q → RootOf (m * 2 ^ (e + 1022)) ((e / 2 + 485) * 2 ^ 52 + q)
  packed q small near =
      let r = (e / 2 + 485) * 2 ^ 52 + q in
      let a = m * 2 ^ (e % 2) * 2 ^ 52 in
      let l : 2 ^ 52 ≤ q = near.least in
      let u : q < 2 ^ 53 = near.most in
      let ds : q ≡ digits r = omega arith in
      let sh : shift r ≡ e / 2 + 485 = omega arith in
      record {
        least = omega arith;
        most = omega arith;
        a = a;
        large = omega (arith, moved-least);
        scaled = four (shift r) sh;
        nearest = subst (λ (z : ℕ). NearestWhole a z) ds (subst (λ (z : ℕ). NearestWhole (z * 2 ^ 52) q) moved near);
      }

-- ---- a float below the smallest normal one: its digits are moved up until there are 53
module _ (b : ℕ) (lo : 0 < b) (hi : b < 2 ^ 52) where
  -- the place j of the highest digit of b
  top : (j : ℕ) × (count_leading_zeros 64 b + suc j ≡ 64) × (2 ^ j ≤ b) × (b < 2 ^ suc j)
  top = leading_top 64 b lo (omega arith)

  pub zeros-most : count_leading_zeros 64 b ≤ 63
  zeros-most = omega (arith, top.1)

  pub zeros-least : 12 ≤ count_leading_zeros 64 b
  zeros-least = go (dec_le 52 top.0)
    where
      go : Dec (52 ≤ top.0) → 12 ≤ count_leading_zeros 64 b
      go (yes h) = let p : 2 ^ 52 ≤ 2 ^ top.0 = pow_mono h in omega (arith, top.2)
      go (no f) = omega (arith, top.1, lt_of_not-le f)

  module _ (z : ℕ) (is : z ≡ count_leading_zeros 64 b - 11) where
    pub up-exact : b * 2 ^ z % 2 ^ 64 ≡ b * 2 ^ z
    up-exact = shl_exact (suc top.0) z 64 top.3 (omega (arith, top.1, zeros-least))

    pub up_least : 2 ^ 52 ≤ b * 2 ^ z % 2 ^ 64
    up_least =
        let e : top.0 + z ≡ 52 = omega (arith, top.1, zeros-least) in
        let f : 2 ^ top.0 * 2 ^ z ≡ 2 ^ 52 = sym (pow-add 2 top.0 z) ∙ ap (λ (y : ℕ). 2 ^ y) e in
        let g : 2 ^ top.0 * 2 ^ z ≤ b * 2 ^ z = mul-le-mul_right (2 ^ z) top.2 in
        omega (arith, up-exact)

    pub up-most : b * 2 ^ z % 2 ^ 64 < 2 ^ 53
    up-most =
        let e : suc top.0 + z ≡ 53 = omega (arith, top.1, zeros-least) in
        let f : b * 2 ^ z < 2 ^ (suc top.0 + z) = shl_lt (suc top.0) z top.3 in
        let g : b * 2 ^ z < 2 ^ 53 = subst (λ (y : ℕ). b * 2 ^ z < 2 ^ y) e f in
        omega (arith, up-exact)

    pub up_same : b * 2 ^ z % 2 ^ 64 * 2 ^ (52 - z + 1022) ≡ b * 2 ^ 1074
    up_same =
        let e : z + (52 - z + 1022) ≡ 1074 = omega (arith, top.1, zeros-least) in
        ap (λ (y : ℕ). y * 2 ^ (52 - z + 1022)) up-exact
        ∙ mul_assoc b (2 ^ z) (2 ^ (52 - z + 1022))
        ∙ ap (λ (y : ℕ). b * y) (sym (pow-add 2 z (52 - z + 1022)))
        ∙ ap (λ (y : ℕ). b * 2 ^ y) e

-- ---- a normal float
pub normal-same : (b : ℕ) → 2 ^ 52 ≤ b → digits b * 2 ^ (b / 2 ^ 52 + 51 + 1022) ≡ digits b * 2 ^ shift b * 2 ^ 1074
normal-same b h =
    let e : b / 2 ^ 52 + 51 + 1022 ≡ shift b + 1074 = omega arith in
    ap (λ (y : ℕ). digits b * 2 ^ y) e ∙ ap (λ (y : ℕ). digits b * y) (pow-add 2 (shift b) 1074) ∙ sym (mul_assoc (digits b) (2 ^ shift b) (2 ^ 1074))
