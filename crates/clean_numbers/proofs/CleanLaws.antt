-- Laws of what `specs/Clean.antt` defines. Assumes nothing.
use mathlib.Core.Path.{◌≡◌, refl, sym, ap, ◌∙◌}
use mathlib.Core.Bool.{Bool, true, false, not, ◌&&◌}
use Prim.Native.Nat.{ℕ, zero, suc, ◌*◌}
use native.Mathlib.Nat.{mul-pos, zero-mul}
use native.Mathlib.Omega.{arith}
use borrow.Author.Tests.{eqb-true}
use lib.IntN.{ℤ, pos}
use lib.Ieee.{Float, nan, inf, fin, binary64, of_bits, up, down, unlike, round, sum, add, neg, sub, mul, lt, eq, ne}
use lib.Ieee.Fits.{up_pos, down_pos}
use Rattle.signs.proofs.Zeros.{round-zero, less-itself}
use Rattle.numbers.specs.Numbers.{is_finite}
use Rattle.clean_numbers.specs.Clean.{clean}

-- ---- one number

-- a zero less itself
zero-less : (s : Bool) (e : ℤ) → sub binary64 (fin s 0 e) (fin s 0 e) ≡ fin false 0 (pos 0)
unfolding sub add neg sum
zero-less true e = less-itself true false (0 * up e * down e) (down e * down e) ∙ round-zero false (down e * down e) (mul-pos (down_pos e) (down_pos e))
zero-less false e = less-itself false true (0 * up e * down e) (down e * down e) ∙ round-zero false (down e * down e) (mul-pos (down_pos e) (down_pos e))

-- and its square
zero-squared : (s : Bool) (e : ℤ) → mul binary64 (fin s 0 e) (fin s 0 e) ≡ fin (unlike s s) 0 (pos 0)
unfolding mul
zero-squared s e =
    let n : 0 * up e * (0 * up e) ≡ 0 = rw (zero-mul (up e)) in
    ap (λ (k : ℕ). round binary64 (unlike s s) k (down e * down e)) n
    ∙ round-zero (unlike s s) (down e * down e) (mul-pos (down_pos e) (down_pos e))

-- neither is below the other
zeros : (s : Bool) (e : ℤ) → lt (sub binary64 (fin s 0 e) (fin s 0 e)) (mul binary64 (fin s 0 e) (fin s 0 e)) ≡ false
unfolding lt
zeros true e = rw (zero-less true e, zero-squared true e)
zeros false e = rw (zero-less false e, zero-squared false e)

-- a number is clean whose square is above itself less itself
pub square-clean : (x : Float) → lt (sub binary64 x x) (mul binary64 x x) ≡ true → true ≡ clean x
unfolding lt sub add neg mul clean
square-clean nan h = sym h
square-clean (inf true) h = sym h
square-clean (inf false) h = sym h
square-clean (fin s zero e) h = sym h ∙ zeros s e
square-clean (fin s (suc m) e) h = refl

-- the first of two tests that both pass
first : (a b : Bool) → a && b ≡ true → a ≡ true
first true b h = refl
first false b h = h

-- a zero is not clean
zero-not-clean : (x : Float) → eq x (of_bits binary64 0) ≡ true → false ≡ clean x
unfolding eq of_bits clean
zero-not-clean nan h = refl
zero-not-clean (inf s) h = refl
zero-not-clean (fin s zero e) h = refl
zero-not-clean (fin s (suc m) e) h =
    let n : suc m * up e * 1 ≡ 0 * 1 * down e = eqb-true (suc m * up e * 1) (0 * 1 * down e) (first _ _ h) in
    absurd (omega (arith, n, zero-mul (down e), mul-pos {m = suc m} (omega arith) (up_pos e)))

-- what is no zero is clean where it is finite
finite-clean : (x : Float) → eq x (of_bits binary64 0) ≡ false → is_finite x ≡ clean x
unfolding eq of_bits clean is_finite
finite-clean nan h = refl
finite-clean (inf s) h = refl
finite-clean (fin true zero e) h = rw (zero-mul (up e), zero-mul (down e)) at h
finite-clean (fin false zero e) h = rw (zero-mul (up e), zero-mul (down e)) at h
finite-clean (fin s (suc m) e) h = refl

-- the same by the test that a number is no zero
not-false : (b : Bool) → not b ≡ false → b ≡ true
not-false true h = refl
not-false false h = sym h

not-true : (b : Bool) → not b ≡ true → b ≡ false
not-true true h = sym h
not-true false h = refl

pub is-zero : (x : Float) → ne x (of_bits binary64 0) ≡ false → ne x (of_bits binary64 0) ≡ clean x
unfolding ne
is-zero x h = h ∙ zero-not-clean x (not-false _ h)

pub no-zero : (x : Float) → ne x (of_bits binary64 0) ≡ true → is_finite x ≡ clean x
unfolding ne
no-zero x h = finite-clean x (not-true _ h)
