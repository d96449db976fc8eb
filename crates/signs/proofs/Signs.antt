-- Signs of products and sums of floats, and that both may be exchanged. Assumes nothing.
use mathlib.Core.Path.{◌≡◌, refl, ap, ◌∙◌}
use mathlib.Core.Bool.{Bool, true, false, not, ◌&&◌, beq, cond}
use Prim.Native.Nat.{ℕ, zero, suc, ◌+◌, ◌-◌, ◌*◌, ◌^◌}
use native.Mathlib.Omega.{arith}
use lib.IntN.{ℤ}
use native.Mathlib.Nat.{mul_comm, add_comm, zero-mul}
use borrow.Author.Tests.{ltb-true, ltb-false, lt-ltb, le-ltb}
use lib.Dec.{ltb}
use lib.Ieee.{Float, nan, inf, fin, Format, binary64, round, units, odd, add, sub, mul, neg, sum, up, down, unlike, low, emax, prec}
pub use Rattle.signs.proofs.Negated.{round-neg, mul-neg}

pub neg-neg : (x : Float) → neg (neg x) ≡ x
unfolding neg
neg-neg nan = refl
neg-neg (inf true) = refl
neg-neg (inf false) = refl
neg-neg (fin true m e) = refl
neg-neg (fin false m e) = refl

unlike-comm : (s t : Bool) → unlike s t ≡ unlike t s
unlike-comm true true = refl
unlike-comm true false = refl
unlike-comm false true = refl
unlike-comm false false = refl

-- ---- products

pub mul-swap : (x y : Float) → mul binary64 x y ≡ mul binary64 y x
unfolding mul
mul-swap nan nan = refl
mul-swap nan (inf t) = refl
mul-swap nan (fin t n d) = refl
mul-swap (inf s) nan = refl
mul-swap (inf s) (inf t) = ap inf (unlike-comm s t)
mul-swap (inf s) (fin t n d) = rw (unlike-comm s t)
mul-swap (fin s m e) nan = refl
mul-swap (fin s m e) (inf t) = rw (unlike-comm s t)
mul-swap (fin s m e) (fin t n d) = rw (unlike-comm s t, mul_comm (m * up e) (n * up d), mul_comm (down e) (down d))

-- ---- sums

beq-swap : (s t : Bool) (a b : Float) → (s ≡ t → a ≡ b) → (c d : Float) → c ≡ d → cond (beq s t) a c ≡ cond (beq t s) b d
beq-swap true true a b h c d e = h refl
beq-swap true false a b h c d e = e
beq-swap false true a b h c d e = e
beq-swap false false a b h c d e = h refl

-- the sum of two numbers of unlike signs, by which is the larger
and-false : (s : Bool) → (s && false) ≡ false
and-false true = refl
and-false false = refl

and-true : (s : Bool) → (s && true) ≡ s
and-true true = refl
and-true false = refl

apart-swap : (s t : Bool) (a b c : ℕ)
    → cond (ltb a b) (round binary64 t (b - a) c) (round binary64 (s && ltb b a) (a - b) c)
    ≡ cond (ltb b a) (round binary64 s (a - b) c) (round binary64 (t && ltb a b) (b - a) c)
apart-swap s t a b c =
    elim (ltb a b) as (λ (x : Bool). ltb a b ≡ x
    → cond x (round binary64 t (b - a) c) (round binary64 (s && ltb b a) (a - b) c) ≡ cond (ltb b a) (round binary64 s (a - b) c) (round binary64 (t && x) (b - a) c)) [
      | true ↦ λ h. rw (le-ltb b a (omega (arith, ltb-true a b h)), and-true t)
      | false ↦ λ h.
          elim (ltb b a) as (λ (y : Bool). ltb b a ≡ y
          → round binary64 (s && y) (a - b) c ≡ cond y (round binary64 s (a - b) c) (round binary64 (t && false) (b - a) c)) [
            | true ↦ λ g. rw (and-true s)
            | false ↦ λ g.
                let e : a ≡ b = omega (arith, ltb-false a b h, ltb-false b a g) in
                rw (and-false s, and-false t, e)
          ] refl
    ] refl

pub add-swap : (x y : Float) → add binary64 x y ≡ add binary64 y x
unfolding add sum
add-swap nan nan = refl
add-swap nan (inf t) = refl
add-swap nan (fin t n d) = refl
add-swap (inf s) nan = refl
add-swap (inf s) (inf t) = beq-swap s t (inf s) (inf t) (ap inf) nan nan refl
add-swap (inf s) (fin t n d) = refl
add-swap (fin s m e) nan = refl
add-swap (fin s m e) (inf t) = refl
add-swap (fin s m e) (fin t n d) =
    let a = m * up e * down d in
    let b = n * up d * down e in
    rw (mul_comm (down d) (down e))
    (beq-swap s t (round binary64 s (a + b) (down e * down d)) (round binary64 t (b + a) (down e * down d)) (λ h. rw (h, add_comm a b))
    _ _ (apart-swap s t a b (down e * down d)))

-- ---- a factor negated

pub neg-mul : (x y : Float) → mul binary64 (neg x) y ≡ neg (mul binary64 x y)
neg-mul x y = mul-swap (neg x) y ∙ mul-neg y x ∙ ap neg (mul-swap y x)

pub sub-neg : (x y z : Float) → sub binary64 x (mul binary64 y (neg z)) ≡ add binary64 x (mul binary64 y z)
unfolding sub
sub-neg x y z = ap (add binary64 x) (ap neg (mul-neg y z) ∙ neg-neg (mul binary64 y z))

-- ---- numbers without a minus sign

-- no minus sign, NaN included
unfoldable pub plus : Float → Bool
plus nan = true
plus (inf s) = not s
plus (fin s m e) = not s

cond-plus : (b : Bool) (x y : Float) → plus x ≡ true → plus y ≡ true → plus (cond b x y) ≡ true
cond-plus true x y h g = h
cond-plus false x y h g = g

odd-plus : (d q k l : ℕ) → plus (odd d false q k l) ≡ true
unfolding odd plus
odd-plus d zero k l = refl
odd-plus d (suc q) k l = refl

inf-plus : plus (inf false) ≡ true
unfolding plus
inf-plus = refl

units-plus : (f : Format) (q k : ℕ) → plus (units f false q k) ≡ true
unfolding units
units-plus f q k =
    cond-plus (ltb (q * 2 ^ k) (2 ^ (low f + suc (emax f)))) (odd (suc (prec f)) false q k (low f)) (inf false)
    (odd-plus (suc (prec f)) q k (low f)) inf-plus

round-plus : (f : Format) (a b : ℕ) → plus (round f false a b) ≡ true
unfolding round
round-plus f a b = units-plus f _ _

-- a square has none
pub own-plus : (x : Float) → plus (mul binary64 x x) ≡ true
unfolding mul plus
own-plus nan = refl
own-plus (inf true) = refl
own-plus (inf false) = refl
own-plus (fin true m e) = round-plus binary64 (m * up e * (m * up e)) (down e * down e)
own-plus (fin false m e) = round-plus binary64 (m * up e * (m * up e)) (down e * down e)

-- nor has a sum of two such
pub add-plus : (x y : Float) → plus x ≡ true → plus y ≡ true → plus (add binary64 x y) ≡ true
unfolding add sum plus
add-plus nan y h g = refl
add-plus (inf true) y h g = cc
add-plus (inf false) nan h g = refl
add-plus (inf false) (inf true) h g = cc
add-plus (inf false) (inf false) h g = refl
add-plus (inf false) (fin t n d) h g = refl
add-plus (fin true m e) y h g = cc
add-plus (fin false m e) nan h g = refl
add-plus (fin false m e) (inf true) h g = cc
add-plus (fin false m e) (inf false) h g = refl
add-plus (fin false m e) (fin true n d) h g = cc
add-plus (fin false m e) (fin false n d) h g = round-plus binary64 (m * up e * down d + n * up d * down e) (down e * down d)

from_zero : (b c : ℕ) → round binary64 false (0 + b) c ≡ cond (ltb 0 b) (round binary64 false (b - 0) c) (round binary64 (true && ltb b 0) (0 - b) c)
from_zero zero c = refl
from_zero (suc b) c = rw (lt-ltb 0 (suc b) (omega arith)) (ap (λ (x : ℕ). round binary64 false x c) (omega arith))

-- added to either zero it gives the same
pub zeros-alike : (e : ℤ) (y : Float) → plus y ≡ true → add binary64 (fin false 0 e) y ≡ add binary64 (fin true 0 e) y
unfolding add sum plus
zeros-alike e nan h = refl
zeros-alike e (inf t) h = refl
zeros-alike e (fin true n d) h = cc
zeros-alike e (fin false n d) h = rw (zero-mul (up e), zero-mul (down d)) (from_zero (n * up d * down e) (down e * down d))
