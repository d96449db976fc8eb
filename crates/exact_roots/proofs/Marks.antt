-- `exact_root` by the bits of its argument: each way through `is_exact`. Assumes nothing.
use mathlib.Core.Path.{◌≡◌, refl, sym, ap, ◌∙◌, subst}
use mathlib.Core.Bool.{Bool, true, false, not, true≢false}
use Prim.Native.Nat.{ℕ, zero, suc, ◌+◌, ◌-◌, ◌*◌, ◌/◌, ◌%◌, ◌^◌, ◌≤◌, ◌<◌}
use native.Mathlib.Nat.{zero-mul, lt_of_not-le}
use native.Mathlib.Decide.{dec_le}
use native.Mathlib.Omega.{arith}
use lib.IntN.{ℤ}
use lib.Count.{count_leading_zeros}
use lib.Dec.{T, eqb}
use lib.Ieee.{Float, nan, inf, fin, binary64, up, down, of_bits, to_bits, of_fields, odd, fits, is_nan, ne}
use lib.Ieee.Bits.{of_bits-to_bits}
use lib.Ieee.Compare.{differs_from_itself}
use borrow.Author.Tests.{eqb-true, eqb-false}
use Rattle.numbers.specs.Root.{units_of, number, squared, Sqrt, sqrt_of}
use Rattle.numbers.specs.Steps.{digits}
use Rattle.numbers.proofs.Patterns.{size_is}
use Rattle.numbers.proofs.Cases.{minus-bits, of-rest, squared-small, squared-normal}
use Rattle.numbers.proofs.Scaling.{up_same, normal-same}
use Rattle.numbers.proofs.Right.{right}
use Rattle.exact_roots.specs.Exact.{exact_root, square_units}

pub of_nan : (x : Float) → ne x x ≡ true → exact_root x ≡ false
unfolding exact_root
of_nan x h = ap exact_root (differs_from_itself x (subst T (sym h) tt))

-- a float by its bits
by_bits : (x : Float) (b : ℕ) → T (fits binary64 x) → to_bits binary64 x ≡ b → x ≡ of_bits binary64 b
by_bits x b f e = sym (of_bits-to_bits binary64 x f) ∙ ap (of_bits binary64) e

pub of_zero : (x : Float) → T (fits binary64 x) → to_bits binary64 x ≡ 0 → exact_root x ≡ true
unfolding exact_root of_bits of_fields odd
of_zero x f e = ap exact_root (by_bits x 0 f e)

of-minus-zero : (x : Float) → T (fits binary64 x) → to_bits binary64 x ≡ 2 ^ 63 → exact_root x ≡ true
unfolding exact_root of_bits of_fields odd
of-minus-zero x f e = ap exact_root (by_bits x (2 ^ 63) f e)

of-infinity : (x : Float) → T (fits binary64 x) → to_bits binary64 x ≡ 2047 * 2 ^ 52 → exact_root x ≡ false
unfolding exact_root of_bits of_fields
of-infinity x f e = ap exact_root (by_bits x (2047 * 2 ^ 52) f e)

nan-fin : (s : Bool) (m : ℕ) (e : ℤ) → nan ≡ fin s m e → ⊥
unfolding is_nan
nan-fin s m e h = true≢false (ap is_nan h)

-- what has no root has no exact one
no-root : (x : Float) → Sqrt x nan → exact_root x ≡ false
unfolding exact_root number
no-root nan p = refl
no-root (inf true) p = refl
no-root (inf false) p = refl
no-root (fin true zero e) p = absurd (nan-fin true zero e p)
no-root (fin false zero e) p = absurd (nan-fin false zero e p)
no-root (fin true (suc m) e) p = refl
no-root (fin false (suc m) e) p = absurd p.float

-- from the bits of infinity up, -0 alone is even
pub of-upper : (x : Float) → T (fits binary64 x) → 2047 * 2 ^ 52 ≤ to_bits binary64 x → eqb (to_bits binary64 x) (2 ^ 63) ≡ exact_root x
of-upper x f lo = go (eqb (to_bits binary64 x) (2 ^ 63)) refl
  where
    other : (to_bits binary64 x ≡ 2 ^ 63 → ⊥) → (t : Bool) → eqb (to_bits binary64 x) (2047 * 2 ^ 52) ≡ t → exact_root x ≡ false
    other n true e = of-infinity x f (eqb-true _ _ e)
    other n false e = no-root x (of-rest x nan f lo (eqb-false _ _ e) n refl)

    go : (t : Bool) → eqb (to_bits binary64 x) (2 ^ 63) ≡ t → t ≡ exact_root x
    go true e = sym (of-minus-zero x f (eqb-true _ _ e))
    go false e = sym (other (eqb-false _ _ e) (eqb (to_bits binary64 x) (2047 * 2 ^ 52)) refl)

-- ---- a positive float
zero-units : (s : Bool) (e : ℤ) → units_of (fin s zero e) ≡ 0
zero-units s e = size_is (fin s zero e) s 0 (refl, ap (λ (z : ℕ). z * 2 ^ 1074) (zero-mul (up e)) ∙ sym (zero-mul (down e)))

zero-even : (s : Bool) (e : ℤ) → true ≡ eqb (square_units (fin s zero e)) (squared (fin s zero e))
unfolding square_units squared
zero-even s e = subst (λ (z : ℕ). true ≡ eqb (z * z) (z * 2 ^ 1074)) (sym (zero-units s e)) refl

pub of_positive : (x : Float) → 0 < to_bits binary64 x → to_bits binary64 x < 2047 * 2 ^ 52 → exact_root x ≡ eqb (square_units (sqrt_of x)) (squared x)
unfolding to_bits exact_root sqrt_of
of_positive nan lo hi = absurd (omega arith)
of_positive (inf true) lo hi = absurd (omega arith)
of_positive (inf false) lo hi = absurd (omega arith)
of_positive (fin true zero x) lo hi = zero-even true x
of_positive (fin true (suc m) x) lo hi = absurd (omega (arith, minus-bits (suc m) x))
of_positive (fin false zero x) lo hi = zero-even false x
of_positive (fin false (suc m) x) lo hi = refl

-- a positive float's bits are below those of infinity
infinity-no : (r : Float) → T (fits binary64 r) → to_bits binary64 r ≡ 2047 * 2 ^ 52 → T (number r) → ⊥
unfolding number of_bits of_fields
infinity-no r f e t = subst (λ (z : Float). T (number z)) (by_bits r (2047 * 2 ^ 52) f e) t

minus-zero-no : (r : Float) → T (fits binary64 r) → to_bits binary64 r ≡ 2 ^ 63 → T (number r) → ⊥
unfolding number of_bits of_fields odd
minus-zero-no r f e t = subst (λ (z : Float). T (number z)) (by_bits r (2 ^ 63) f e) t

number-root : (r : Float) → T (number r) → Sqrt r nan → ⊥
unfolding number
number-root nan t p = t
number-root (inf s) t p = t
number-root (fin true m e) t p = t
number-root (fin false zero e) t p = nan-fin false zero e p
number-root (fin false (suc m) e) t p = p.float

pub number_fits : (r : Float) → T (number r) → T (fits binary64 r)
unfolding number
number_fits nan t = absurd t
number_fits (inf s) t = absurd t
number_fits (fin true m e) t = absurd t
number_fits (fin false m e) t = t

pub number-bits : (r : Float) → T (number r) → to_bits binary64 r < 2047 * 2 ^ 52
number-bits r t = go (dec_le (2047 * 2 ^ 52) (to_bits binary64 r))
  where
    f : T (fits binary64 r)
    f = number_fits r t

    go : Dec (2047 * 2 ^ 52 ≤ to_bits binary64 r) → to_bits binary64 r < 2047 * 2 ^ 52
    go (yes h) = absurd (number-root r t (of-rest r nan f h (λ e. infinity-no r f e t) (λ e. minus-zero-no r f e t) refl))
    go (no n) = lt_of_not-le n

-- the root of a positive float is one
pub root-number : (x r : Float) → T (fits binary64 x) → 0 < to_bits binary64 x → to_bits binary64 x < 2047 * 2 ^ 52 → Sqrt x r → T (number r)
unfolding number to_bits
root-number nan r f lo hi p = absurd (omega arith)
root-number (inf true) r f lo hi p = absurd (omega arith)
root-number (inf false) r f lo hi p = absurd (omega arith)
root-number (fin true zero e) r f lo hi p = absurd (omega (arith, minus-bits zero e))
root-number (fin true (suc m) e) r f lo hi p = absurd (omega (arith, minus-bits (suc m) e))
root-number (fin false zero e) r f lo hi p = subst (λ (z : Float). T (number z)) (sym p) f
root-number (fin false (suc m) e) r f lo hi p = p.float

-- ---- what `is_exact` needs of the root and gives of it
module _ (x r : Float) (f : T (fits binary64 x)) (is : r ≡ sqrt_of x) (lo : 0 < to_bits binary64 x) (hi : to_bits binary64 x < 2047 * 2 ^ 52) where
  number-r : T (number r)
  number-r = root-number x r f lo hi (subst (Sqrt x) (sym is) (right x f))

  pub root_below : to_bits binary64 r < 2047 * 2 ^ 52
  root_below = number-bits r number-r

  pub root-no-nan : T (not (is_nan r))
  unfolding is_nan number
  root-no-nan = go r number-r
    where
      go : (r : Float) → T (number r) → T (not (is_nan r))
      go nan t = absurd t
      go (inf s) t = tt
      go (fin s m e) t = tt

  -- the test of the squares is that of `exact_root`
  by-square : (n : ℕ) → squared x ≡ n → eqb (square_units (of_bits binary64 (to_bits binary64 r))) n ≡ exact_root x
  by-square n e =
      ap (λ (z : Float). eqb (square_units z) n) (of_bits-to_bits binary64 r (number_fits r number-r) ∙ is)
      ∙ ap (λ (k : ℕ). eqb (square_units (sqrt_of x)) k) (sym e)
      ∙ sym (of_positive x lo hi)

  pub small-test : (z : ℕ) → to_bits binary64 x < 2 ^ 52 → z ≡ count_leading_zeros 64 (to_bits binary64 x) - 11
      → eqb (square_units (of_bits binary64 (to_bits binary64 r))) (to_bits binary64 x * 2 ^ z % 2 ^ 64 * 2 ^ (52 - z + 1022)) ≡ exact_root x
  small-test z s e = by-square _ (squared-small x f s ∙ sym (up_same _ lo s z e))

  pub normal-test : 2 ^ 52 ≤ to_bits binary64 x
      → eqb (square_units (of_bits binary64 (to_bits binary64 r))) (digits (to_bits binary64 x) * 2 ^ (to_bits binary64 x / 2 ^ 52 + 51 + 1022)) ≡ exact_root x
  normal-test l = by-square _ (squared-normal x f l hi ∙ sym (normal-same _ l))
