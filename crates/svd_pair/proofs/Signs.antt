-- A number is either at least zero or below it, but for a NaN, which is its own negation. Assumes nothing.
use mathlib.Core.Path.{◌≡◌, refl, sym, ◌∙◌}
use mathlib.Core.Bool.{Bool, true, false, false≢true, ◌||◌, ◌&&◌}
use Prim.Native.Nat.{ℕ, zero, suc, ◌+◌, ◌*◌}
use native.Mathlib.Omega.{arith}
use lib.Dec.{ltb, eqb}
use borrow.Author.Tests.{ltb-true, ltb-false, eqb-true, eq-eqb, le-ltb, lt-ltb}
use lib.Ieee as Ieee
use lib.Ieee.{Float, nan, inf, fin, of_bits, of_fields, odd, up, down}
use Rattle.complex.specs.Zeros.{zero_float}

and_left : (p q : Bool) → p && q ≡ true → p ≡ true
and_left true q h = refl
and_left false q h = h

-- a, with a minus sign, against 0
sides : (a b : ℕ) → b ≡ 0 → ltb 0 (a + b) ≡ true → eqb b a && (false || eqb b 0) ≡ true → ⊥
sides a b e h k = omega (arith, ltb-true 0 (a + b) h, eqb-true b a (and_left (eqb b a) (false || eqb b 0) k))

neither : (a b : ℕ) → b ≡ 0 → ltb 0 (a + b) ≡ false → eqb b a && (false || eqb b 0) ≡ false → ⊥
neither a b e h k =
    let f : b ≡ a = omega (arith, ltb-false 0 (a + b) h) in
    false≢true (sym k ∙ rw (eq-eqb b a f, eq-eqb b 0 e))

-- and with none
none_below : (a b : ℕ) → b ≡ 0 → ltb a b ≡ true → ⊥
none_below a b e h = omega (arith, ltb-true a b h)

at_least : (a b : ℕ) → b ≡ 0 → ltb b a || (eqb b a && (true || eqb b 0)) ≡ false → ⊥
at_least zero b e h = false≢true (sym h ∙ rw (le-ltb b 0 (omega arith), eq-eqb b 0 e))
at_least (suc a) b e h = false≢true (sym h ∙ rw (lt-ltb b (suc a) (omega arith)))

pub not-both : (x : Float) → Ieee.le zero_float x ≡ true → Ieee.lt x zero_float ≡ true → ⊥
unfolding Ieee.le Ieee.lt Ieee.eq of_bits of_fields odd
not-both nan h k = false≢true k
not-both (inf true) h k = false≢true h
not-both (inf false) h k = false≢true k
not-both (fin false m e) h k = none_below (m * up e * 1) (0 * 1 * down e) (omega arith) k
not-both (fin true m e) h k = sides (m * up e * 1) (0 * 1 * down e) (omega arith) k h

pub none : (x : Float) → Ieee.le zero_float x ≡ false → Ieee.lt x zero_float ≡ false → x ≡ Ieee.neg x
unfolding Ieee.le Ieee.lt Ieee.eq Ieee.neg of_bits of_fields odd
none nan h k = refl
none (inf true) h k = absurd (false≢true (sym k))
none (inf false) h k = absurd (false≢true (sym h))
none (fin false m e) h k = absurd (at_least (m * up e * 1) (0 * 1 * down e) (omega arith) h)
none (fin true m e) h k = absurd (neither (m * up e * 1) (0 * 1 * down e) (omega arith) k h)
