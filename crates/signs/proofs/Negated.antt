-- A sign turned before rounding, and before a product. Assumes nothing.
use mathlib.Core.Path.{◌≡◌, refl, ap, ◌∙◌}
use mathlib.Core.Bool.{Bool, true, false, not, cond}
use Prim.Native.Nat.{ℕ, zero, suc, ◌+◌, ◌*◌, ◌^◌}
use lib.Dec.{ltb, eqb}
use lib.Ieee.{Float, nan, inf, fin, Format, binary64, round, units, odd, mul, neg, up, down, unlike, low, emax, prec}

neg-cond : (b : Bool) (x y : Float) → cond b (neg x) (neg y) ≡ neg (cond b x y)
neg-cond true x y = refl
neg-cond false x y = refl

unlike-not : (s t : Bool) → unlike s (not t) ≡ not (unlike s t)
unlike-not true true = refl
unlike-not true false = refl
unlike-not false true = refl
unlike-not false false = refl

odd-neg : (d : ℕ) (s : Bool) (q k l : ℕ) → odd d (not s) q k l ≡ neg (odd d s q k l)
unfolding odd neg
odd-neg d s zero k l = refl
odd-neg d s (suc q) k l = refl

units-neg : (f : Format) (s : Bool) (q k : ℕ) → units f (not s) q k ≡ neg (units f s q k)
unfolding units neg
units-neg f s q k =
    let b = ltb (q * 2 ^ k) (2 ^ (low f + suc (emax f))) in
    ap (λ (x : Float). cond b x (inf (not s))) (odd-neg (suc (prec f)) s q k (low f)) ∙ neg-cond b (odd (suc (prec f)) s q k (low f)) (inf s)

pub round-neg : (f : Format) (s : Bool) (a b : ℕ) → round f (not s) a b ≡ neg (round f s a b)
unfolding round
round-neg f s a b = units-neg f s _ _

pub mul-neg : (x y : Float) → mul binary64 x (neg y) ≡ neg (mul binary64 x y)
unfolding mul neg
mul-neg nan y = refl
mul-neg (inf s) nan = refl
mul-neg (inf s) (inf t) = ap inf (unlike-not s t)
mul-neg (inf s) (fin t n d) = ap (λ (b : Bool). cond (eqb n 0) nan (inf b)) (unlike-not s t) ∙ neg-cond (eqb n 0) nan (inf (unlike s t))
mul-neg (fin s m e) nan = refl
mul-neg (fin s m e) (inf t) = ap (λ (b : Bool). cond (eqb m 0) nan (inf b)) (unlike-not s t) ∙ neg-cond (eqb m 0) nan (inf (unlike s t))
mul-neg (fin s m e) (fin t n d) = rw unlike-not (round-neg binary64 (unlike s t) (m * up e * (n * up d)) (down e * down d))
