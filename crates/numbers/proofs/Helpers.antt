-- Sign, magnitude, finite test and total order, each way through their code. Assumes nothing.
use mathlib.Core.Path.{◌≡◌, refl, sym, ap, ◌∙◌, subst}
use mathlib.Core.Bool.{Bool, true, false, not}
use Prim.Native.Nat.{◌*◌, ◌^◌}
use native.Mathlib.Omega.{arith}
use borrow.Author.Tests.{le-leb, lt-leb, eq-eqb}
use lib.Dec.{T, leb}
use lib.Ieee.{Float, nan, inf, fin, binary64, up, down, fits, is_nan, ne, eq, lt, neg, to_bits}
use lib.Ieee.Compare.{differs_from_itself}
use Rattle.numbers.specs.Numbers.{minus_sign, magnitude_of, sign_of, is_finite, total_less, total_order, one_float}
use Rattle.std.proofs.Common.{Less, Equal, Greater}
use Rattle.numbers.proofs.Cases.{minus-bits, plus-bits}

-- the sign stands in the pattern's top bit
pub sign_bit : (x : Float) → T (fits binary64 x) → T (not (is_nan x)) → leb (2 ^ 63) (to_bits binary64 x) ≡ minus_sign x
unfolding minus_sign is_nan to_bits
sign_bit nan f h = absurd h
sign_bit (inf true) f h = refl
sign_bit (inf false) f h = refl
sign_bit (fin true m e) f h = le-leb (2 ^ 63) (to_bits binary64 (fin true m e)) (omega (arith, minus-bits m e))
sign_bit (fin false m e) f h = lt-leb (2 ^ 63) (to_bits binary64 (fin false m e)) (plus-bits m e f)

is-nan : (x : Float) → ne x x ≡ true → x ≡ nan
is-nan x h = differs_from_itself x (subst T (sym h) tt)

pub nan-no-sign : (x : Float) → eq x x ≡ false → eq x x ≡ minus_sign x
unfolding ne minus_sign
nan-no-sign x h = rw (is-nan x (ap not h))

pub cleared : (x : Float) → minus_sign x ≡ true → neg x ≡ magnitude_of x
unfolding minus_sign neg magnitude_of
cleared nan h = refl
cleared (inf s) h = rw h
cleared (fin s m e) h = rw h

pub clear : (x : Float) → minus_sign x ≡ false → x ≡ magnitude_of x
unfolding minus_sign magnitude_of
clear nan h = refl
clear (inf s) h = rw h
clear (fin s m e) h = rw h

pub sign-nan : (x : Float) → ne x x ≡ true → x ≡ sign_of x
unfolding sign_of
sign-nan x h = rw (is-nan x h)

pub sign-minus : (x : Float) → minus_sign x ≡ true → neg one_float ≡ sign_of x
unfolding minus_sign sign_of
sign-minus nan h = cc
sign-minus (inf s) h = rw h
sign-minus (fin s m e) h = rw h

pub sign-plus : (x : Float) → ne x x ≡ false → minus_sign x ≡ false → one_float ≡ sign_of x
unfolding minus_sign sign_of ne eq
sign-plus nan g h = cc
sign-plus (inf s) g h = rw h
sign-plus (fin s m e) g h = rw h

pub below-infinity : (x : Float) → lt x (inf false) ≡ true → lt (inf true) x ≡ is_finite x
unfolding lt is_finite
below-infinity nan h = refl
below-infinity (inf true) h = refl
below-infinity (inf false) h = sym h
below-infinity (fin s m e) h = refl

pub not-below-infinity : (x : Float) → lt x (inf false) ≡ false → false ≡ is_finite x
unfolding lt is_finite
not-below-infinity nan h = refl
not-below-infinity (inf s) h = refl
not-below-infinity (fin s m e) h = sym h

-- ---- the total order

-- every float but the NaN equals itself
pub same_self : (x : Float) → eq x x ≡ not (is_nan x)
unfolding eq is_nan
same_self nan = refl
same_self (inf true) = refl
same_self (inf false) = refl
same_self (fin true m e) = rw (eq-eqb (m * up e * down e) (m * up e * down e) refl)
same_self (fin false m e) = rw (eq-eqb (m * up e * down e) (m * up e * down e) refl)

pub number : (x : Float) → eq x x ≡ true → T (not (is_nan x))
number x h = subst T (sym (sym (same_self x) ∙ h)) tt

not-not : (b : Bool) → not (not b) ≡ b
not-not true = refl
not-not false = refl

differs : (x : Float) {b : Bool} → ne x x ≡ b → is_nan x ≡ b
unfolding ne
differs x h = sym (not-not (is_nan x)) ∙ ap not (sym (same_self x)) ∙ h

module _ (x y : Float) where
  pub total-nan : ne y y ≡ true → eq x x ≡ total_less x y
  unfolding total_less
  total-nan h = rw (differs y h) (same_self x)

  module _ (number : ne y y ≡ false) where
    pub total-below : lt x y ≡ true → true ≡ total_less x y
    unfolding total_less
    total-below h = rw (differs y number, h)

    module _ (above : lt x y ≡ false) where
      pub total-level : {s t : Bool} → eq x y ≡ true → s ≡ minus_sign x → s ≡ true → t ≡ minus_sign y → not t ≡ total_less x y
      unfolding total_less
      total-level e p q r = rw (differs y number, above, e, ← p, q, r)

      pub total-no-sign : {s : Bool} → eq x y ≡ true → s ≡ minus_sign x → s ≡ false → false ≡ total_less x y
      unfolding total_less
      total-no-sign e p q = rw (differs y number, above, e, ← p, q)

      pub total-above : eq x y ≡ false → false ≡ total_less x y
      unfolding total_less
      total-above e = rw (differs y number, above, e)

  pub order-less : total_less x y ≡ true → Less ≡ total_order x y
  unfolding total_order
  order-less h = rw h

  pub order-greater : total_less x y ≡ false → total_less y x ≡ true → Greater ≡ total_order x y
  unfolding total_order
  order-greater h g = rw (h, g)

  pub order-equal : total_less x y ≡ false → total_less y x ≡ false → Equal ≡ total_order x y
  unfolding total_order
  order-equal h g = rw (h, g)
