-- Laws of what `specs/Signs.antt` defines. Assumes nothing.
use mathlib.Core.Path.{◌≡◌, refl, sym, ap, subst}
use mathlib.Core.Bool.{Bool, true, false, not, ◌&&◌, beq, cond}
use Prim.Native.Nat.{ℕ, ◌+◌, ◌-◌, ◌*◌, ◌<◌}
use native.Mathlib.Omega.{arith}
use native.Mathlib.Nat.{zero-mul, mul-pos, zero-add, sub-zero}
use borrow.Author.Tests.{ltb-false}
use lib.Dec.{ltb}
use lib.IntN.{pos}
use lib.Ieee.{Float, nan, inf, fin, binary64, round, add, neg, sum, up, down}
use lib.Ieee.Fits.{down_pos}
use Rattle.signs.proofs.Zeros.{round-zero}
use Rattle.signs.proofs.Signs.{neg-neg, round-neg, add-swap}
use Rattle.agreement.specs.Signs.{Alike, same, zeros}

pub alike : {x y : Float} → x ≡ y → Alike x y
alike {x} e = subst (λ (z : Float). Alike x z) e same

pub back : {x y : Float} → Alike x y → Alike y x
back same = same
back zeros = zeros

pub step : {x y z : Float} → x ≡ y → Alike y z → Alike x z
step {x} {y} {z} e a = subst (λ (w : Float). Alike w z) (sym e) a

pub then : {x y z : Float} → Alike x y → y ≡ z → Alike x z
then {x} a e = subst (λ (w : Float). Alike x w) e a

after-zero : {y z : Float} → Alike y z → (t : Bool) → y ≡ fin t 0 (pos 0) → (s : Bool) → Alike (fin s 0 (pos 0)) z
after-zero same t e s = then (zeros {s = s} {t = t}) (sym e)
after-zero (zeros {t = u}) t e s = zeros {s = s} {t = u}

pub trans : {x y z : Float} → Alike x y → Alike y z → Alike x z
trans same b = b
trans (zeros {s = s} {t = t}) b = after-zero b t refl s

pub join : {x y z : Float} → Alike x z → Alike y z → Alike x y
join a b = trans a (back b)

-- ---- sums

alike-neg : {x y : Float} → Alike x y → Alike (neg x) (neg y)
unfolding neg
alike-neg same = same
alike-neg zeros = zeros

zero-neg : (s t : Bool) (c : ℕ) → 0 < c → Alike (round binary64 s 0 c) (neg (round binary64 t 0 c))
unfolding neg
zero-neg s t c h = step (round-zero s c h) (then (zeros {s = s} {t = not t}) (sym (ap neg (round-zero t c h))))

-- negated, the sum is the negated sum, but for the sign of a zero
apart-neg : (a b c : ℕ) → 0 < c
    → Alike (cond (ltb a b) (round binary64 true (b - a) c) (round binary64 false (a - b) c))
    (neg (cond (ltb a b) (round binary64 false (b - a) c) (round binary64 (ltb b a) (a - b) c)))
apart-neg a b c h =
    elim (ltb a b) as (λ (x : Bool). ltb a b ≡ x
    → Alike (cond x (round binary64 true (b - a) c) (round binary64 false (a - b) c))
    (neg (cond x (round binary64 false (b - a) c) (round binary64 (ltb b a) (a - b) c)))) [
      | true ↦ λ e. alike (round-neg binary64 false (b - a) c)
      | false ↦ λ e.
          elim (ltb b a) as (λ (y : Bool). ltb b a ≡ y → Alike (round binary64 false (a - b) c) (neg (round binary64 y (a - b) c))) [
            | true ↦ λ g. alike (round-neg binary64 true (a - b) c)
            | false ↦ λ g.
                let z : a - b ≡ 0 = omega (arith, ltb-false a b e, ltb-false b a g) in
                rw z (zero-neg false false c h)
          ] refl
    ] refl

sum-neg : (s t : Bool) (a b c : ℕ) → 0 < c → Alike (sum binary64 (not s) a (not t) b c) (neg (sum binary64 s a t b c))
unfolding sum
sum-neg true true a b c h = alike (round-neg binary64 true (a + b) c)
sum-neg false false a b c h = alike (round-neg binary64 false (a + b) c)
sum-neg true false a b c h = apart-neg a b c h
sum-neg false true a b c h = back (then (alike-neg (apart-neg a b c h)) (neg-neg _))

inf-neg : (s t : Bool) → cond (beq (not s) (not t)) (inf (not s)) nan ≡ neg (cond (beq s t) (inf s) nan)
unfolding neg
inf-neg true true = refl
inf-neg true false = refl
inf-neg false true = refl
inf-neg false false = refl

pub add-neg : (x y : Float) → Alike (add binary64 (neg x) (neg y)) (neg (add binary64 x y))
unfolding add neg
add-neg nan y = same
add-neg (inf s) nan = same
add-neg (inf s) (inf t) = alike (inf-neg s t)
add-neg (inf s) (fin t n d) = same
add-neg (fin s m e) nan = same
add-neg (fin s m e) (inf t) = same
add-neg (fin s m e) (fin t n d) =
    sum-neg s t (m * up e * down d) (n * up d * down e) (down e * down d) (mul-pos (down_pos e) (down_pos d))

-- a zero's sign is no matter in a sum, but for the sign of a zero
zero-apart : (s t : Bool) (b c : ℕ) → 0 < c
    → Alike (cond (ltb 0 b) (round binary64 t (b - 0) c) (round binary64 (s && ltb b 0) (0 - b) c)) (round binary64 t b c)
zero-apart s t b c h =
    elim (ltb 0 b) as (λ (x : Bool). ltb 0 b ≡ x → Alike (cond x (round binary64 t (b - 0) c) (round binary64 (s && ltb b 0) (0 - b) c)) (round binary64 t b c)) [
      | true ↦ λ e. alike (rw sub-zero)
      | false ↦ λ e.
          let z : b ≡ 0 = omega (arith, ltb-false 0 b e) in
          rw z (step (round-zero (s && false) c h) (then (zeros {s = s && false} {t = t}) (sym (round-zero t c h))))
    ] refl

zero_left : (s t : Bool) (b c : ℕ) → 0 < c → Alike (sum binary64 s 0 t b c) (round binary64 t b c)
unfolding sum
zero_left true true b c h = alike (rw zero-add)
zero_left false false b c h = alike (rw zero-add)
zero_left true false b c h = zero-apart true false b c h
zero_left false true b c h = zero-apart false true b c h

pub alike-left : (y : Float) {x x' : Float} → Alike x x' → Alike (add binary64 x y) (add binary64 x' y)
unfolding add
alike-left y same = same
alike-left nan zeros = same
alike-left (inf t) zeros = same
alike-left (fin t n d) (zeros {s = s} {t = s'}) =
    let p : 0 < 1 * down d = mul-pos (omega arith) (down_pos d) in
    rw zero-mul (join (zero_left s t (n * up d * 1) (1 * down d) p) (zero_left s' t (n * up d * 1) (1 * down d) p))

pub alike-add : {x x' y y' : Float} → Alike x x' → Alike y y' → Alike (add binary64 x y) (add binary64 x' y')
alike-add {x} {x'} {y} {y'} a b =
    trans (alike-left y a) (step (add-swap x' y) (then (alike-left x' b) (add-swap y' x')))
