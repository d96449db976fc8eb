-- `sqrt_of` on bit patterns: each way through `sqrt_bits`. Assumes nothing.
use mathlib.Core.Path.{◌≡◌, refl, sym, ap, ◌∙◌, subst}
use mathlib.Core.Bool.{Bool, true, false, not}
use Prim.Native.Nat.{ℕ, ◌*◌, ◌^◌, ◌≤◌, ◌<◌}
use native.Mathlib.Omega.{arith}
use lib.Dec.{T}
use lib.Ieee.{Float, nan, binary64, of_bits, to_bits, of_fields, odd, nan_bits}
use lib.Ieee as Ieee
use lib.Ieee.Bits.{of_bits-fits, to_bits-of_bits, nan_bits_is}
use Rattle.numbers.specs.Root.{Sqrt, sqrt_of}
use Rattle.numbers.specs.Steps.{RootBits, normal_size}
use Rattle.numbers.proofs.Cases.{is-nan, of-root, of-rest, root-most}
use Rattle.numbers.proofs.Mending.{bits-no-nan}
use Rattle.numbers.proofs.Right.{sqrt-is}

-- the pattern of the root of the float of the pattern b
abbrev Root : ℕ → ℕ
Root b = to_bits binary64 (sqrt_of (of_bits binary64 b))

pub at_zero : (b : ℕ) → b ≡ 0 → 0 ≡ Root b
unfolding of_bits of_fields odd sqrt_of to_bits Ieee.size Ieee.span Ieee.climb
at_zero b e = subst (λ (z : ℕ). 0 ≡ Root z) (sym e) refl

pub at-infinity : (b : ℕ) → b ≡ 2047 * 2 ^ 52 → b ≡ Root b
unfolding of_bits of_fields sqrt_of to_bits
at-infinity b e = subst (λ (z : ℕ). z ≡ Root z) (sym e) refl

pub at-minus-zero : (b : ℕ) → b ≡ 2 ^ 63 → b ≡ Root b
unfolding of_bits of_fields odd sqrt_of to_bits Ieee.size Ieee.span Ieee.climb
at-minus-zero b e = subst (λ (z : ℕ). z ≡ Root z) (sym e) refl

-- a pattern that is no NaN's is that of its float
same_bits : (b : ℕ) → b < 2 ^ 64 → T (not (nan_bits binary64 b)) → to_bits binary64 (of_bits binary64 b) ≡ b
same_bits b h t = to_bits-of_bits binary64 b h (subst (λ (z : Bool). T (not z)) (nan_bits_is binary64 b) t)

pub at-root : (b r : ℕ) → 0 < b → b < 2047 * 2 ^ 52 → (b < 2 ^ 52 → RootBits b r) → (2 ^ 52 ≤ b → RootBits (normal_size b) r) → r ≡ Root b
at-root b r lo hi small normal =
    let x = of_bits binary64 b in
    let f = of_bits-fits binary64 b in
    let e : to_bits binary64 x ≡ b = same_bits b (omega arith) (bits-no-nan b hi) in
    let m : r < 2047 * 2 ^ 52 = root-most b r small normal in
    let p : Sqrt x (of_bits binary64 r) =
    subst (λ (z : ℕ). 0 < z → z < 2047 * 2 ^ 52 → (z < 2 ^ 52 → RootBits z r) → (2 ^ 52 ≤ z → RootBits (normal_size z) r) → Sqrt x (of_bits binary64 r)) e (of-root x r f) lo hi small normal in
    sym (same_bits r (omega arith) (bits-no-nan r m)) ∙ ap (to_bits binary64) (sqrt-is x (of_bits binary64 r) f p)

-- every other pattern gives that of the NaN
nan-root : (x : Float) → nan ≡ sqrt_of x → 0x7ff8_0000_0000_0000 ≡ to_bits binary64 (sqrt_of x)
unfolding to_bits
nan-root x e = ap (to_bits binary64) e

pub at_rest : (b : ℕ) → b < 2 ^ 64 → 2047 * 2 ^ 52 ≤ b → (b ≡ 2047 * 2 ^ 52 → ⊥) → (b ≡ 2 ^ 63 → ⊥) → 0x7ff8_0000_0000_0000 ≡ Root b
unfolding sqrt_of
at_rest b h lo p q = nan-root (of_bits binary64 b) (go (nan_bits binary64 b) refl)
  where
    go : (t : Bool) → nan_bits binary64 b ≡ t → nan ≡ sqrt_of (of_bits binary64 b)
    go true e = ap sqrt_of (sym (is-nan (of_bits binary64 b) (sym (nan_bits_is binary64 b) ∙ e)))
    go false e =
        let f = of_bits-fits binary64 b in
        let s : to_bits binary64 (of_bits binary64 b) ≡ b = same_bits b h (subst (λ (z : Bool). T (not z)) (sym e) tt) in
        sqrt-is (of_bits binary64 b) nan f
        (subst (λ (z : ℕ). 2047 * 2 ^ 52 ≤ z → (z ≡ 2047 * 2 ^ 52 → ⊥) → (z ≡ 2 ^ 63 → ⊥) → nan ≡ nan → Sqrt (of_bits binary64 b) nan) s (of-rest (of_bits binary64 b) nan f) lo p q refl)
