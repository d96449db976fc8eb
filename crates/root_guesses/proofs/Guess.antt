-- A guess whose digits are nearest to the root of the number's digits, with the root's exponent, is the root. Assumes nothing.
use Rattle.std.proofs.Common.{◌≡◌, ℕ, ◌+◌, ◌-◌, ◌*◌, ◌/◌, ◌%◌, ◌^◌, ◌<◌, ◌≤◌, T, sym, ◌∙◌, subst, mul-le-mul, arith}
use lib.Ieee.{Float, binary64, fits, of_bits, to_bits}
use lib.Ieee.Bits.{of_bits-to_bits}
use Rattle.numbers.specs.Root.{sqrt_of}
use Rattle.numbers.specs.Steps.{NearestWhole, RootOf, RootBits, digits, normal_size}
use Rattle.numbers.proofs.Mending.{hi, lo, off, step, is_up, not-down, mend}
use Rattle.numbers.proofs.Scaling.{packed, normal-same}
use Rattle.numbers.proofs.Cases.{of-root}
use Rattle.numbers.proofs.Right.{sqrt-is}

plus_none : (q a b : ℕ) → a ≡ 0 → b ≡ 1 → q + a + b - 1 ≡ q
plus_none q a b e f = omega arith

-- what `mended` would leave as it is, is nearest
pub nearest : (n q : ℕ) → 2 ^ 52 ≤ n → n < 2 ^ 54 - 1 → 2 ^ 52 ≤ q → q < 2 ^ 53 → hi q * hi q ≤ n + 4 → hi q * lo q ≤ (n + 4 - hi q * hi q) * 2 ^ 25
    → lo q * lo q ≤ ((n + 4 - hi q * hi q) * 2 ^ 25 - hi q * lo q) * 2 ^ 27 → off n q ≤ 2 ^ 54 + q → 2 ^ 54 < off n q + q → NearestWhole (n * 2 ^ 52) q
nearest n q h₁ h₂ h₃ h₄ a b c up down =
    let w = off n q in
    let same : step w q ≡ q = plus_none q (is_up w q) (not-down w q) (omega arith) (omega arith) in
    subst (λ (z : ℕ). NearestWhole (n * 2 ^ 52) z) same (mend n q h₁ h₂ h₃ a b c h₄ (omega arith) (omega arith))

-- the square of the lower digits is below the number
pub low-square : (q : ℕ) → 2 ^ 52 ≤ q → lo q * lo q ≤ q
low-square q h =
    let l : lo q ≤ 2 ^ 26 = omega arith in
    let s : lo q * lo q ≤ 2 ^ 26 * 2 ^ 26 = mul-le-mul l l in
    omega (arith, s)

-- the last test of `is_nearest`: with w = s - ll, r is w + q - 2^54 - 1, wrapped round where that is below 0
pub in-one-test : (s ll q r : ℕ) → q < 2 ^ 53 → ll ≤ q → s + q < 2 ^ 64 → r ≡ (s + q - ll + (2 ^ 64 - 0x40_0000_0000_0001)) % 2 ^ 64 → r < 2 * q → (ll ≤ s) × (s - ll ≤ 2 ^ 54 + q) × (2 ^ 54 < s - ll + q)
in-one-test s ll q r h k b e l = (omega arith, omega arith, omega arith)

-- the exponent's half, from the bits of a number with a full exponent
pub half-most : (b : ℕ) → 2 ^ 52 ≤ b → (b - 2 ^ 52) / 2 ^ 53 < 1023 → b < 2047 * 2 ^ 52
half-most b h l = omega arith

pub half-exponent : (a b : ℕ) → 2 ^ 52 ≤ b → a / 2 ^ 52 ≡ (b - 2 ^ 52) / 2 ^ 53 + 512 → a / 2 ^ 52 ≡ (b / 2 ^ 52 + 51) / 2 + 486
half-exponent a b h e = omega arith

-- the bits of the guess are those of the root
pub is-the-root : (x t : Float) → T (fits binary64 x) → T (fits binary64 t) → 2 ^ 52 ≤ to_bits binary64 x → to_bits binary64 x < 2047 * 2 ^ 52
    → to_bits binary64 t / 2 ^ 52 ≡ (to_bits binary64 x / 2 ^ 52 + 51) / 2 + 486
    → NearestWhole (digits (to_bits binary64 x) * 2 ^ ((to_bits binary64 x / 2 ^ 52 + 51) % 2) % 2 ^ 64 * 2 ^ 52) (digits (to_bits binary64 t)) → t ≡ sqrt_of x
is-the-root x t fx ft least most exponent near =
    let b = to_bits binary64 x in
    let a = to_bits binary64 t in
    let e = b / 2 ^ 52 + 51 in
    let p : RootOf (digits b * 2 ^ (e + 1022)) ((e / 2 + 485) * 2 ^ 52 + digits a) = packed (digits b) e (omega arith) (omega arith) (digits a) (omega arith) near in
    let same : (e / 2 + 485) * 2 ^ 52 + digits a ≡ a = omega arith in
    let r : RootBits (normal_size b) a = subst (λ (z : ℕ). RootOf z a) (normal-same b least) (subst (λ (z : ℕ). RootOf (digits b * 2 ^ (e + 1022)) z) same p) in
    sym (of_bits-to_bits binary64 t ft) ∙ sqrt-is x (of_bits binary64 a) fx (of-root x a fx (omega arith) most (λ l. absurd (omega arith)) (λ l. r))
