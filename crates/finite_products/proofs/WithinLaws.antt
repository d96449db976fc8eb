-- A rounded number of at most 2 ^ k is at most 2 ^ k, and a sum of two such is finite. Assumes nothing.
use mathlib.Core.Path.{◌≡◌, refl, sym, ap, subst, ◌∙◌}
use mathlib.Core.Bool.{Bool, true, false, not, ◌&&◌, cond, beq, false≢true}
use Prim.Native.Nat.{ℕ, zero, suc, ◌+◌, ◌-◌, ◌*◌, ◌^◌, ◌≤◌, ◌<◌}
use native.Mathlib.Nat.{pow-suc, mul_assoc, mul_comm, mul_left_comm, add-mul, mul-le-mul, mul-le-mul_right, mul-pos, zero-mul, one-mul, mul-one, le_trans, le_of_eq}
use native.Mathlib.Omega.{arith}
use borrow.Author.Tests.{leb-true, lt-ltb}
use lib.Dec.{T, ltb}
use lib.IntN.{ℤ, pos, negsuc}
use lib.Pow.{pow_pos}
use lib.Ieee.{Float, nan, inf, fin, binary64, round, units, odd, add, mul, neg, sum, up, down, unlike, le, lt, eq, low, emax, prec}
use lib.Ieee.Fits.{round_is}
use lib.Ieee.Order.{round_mono}
use lib.Ieee.Positive.{le→cross}
use Rattle.numbers.specs.Numbers.{allowed, is_finite}
use Rattle.signs.proofs.Signs.{round-neg}
use Rattle.finite_products.specs.Within.{Within}

pub down_pos : (e : ℤ) → 0 < down e
down_pos (pos k) = omega arith
down_pos (negsuc k) = pow_pos (suc k)

pub within-finite : (b : ℕ) (x : Float) → Within b x → is_finite x ≡ true
unfolding is_finite
within-finite b nan h = absurd h
within-finite b (inf s) h = absurd h
within-finite b (fin s m e) h = refl

pub within-neg : (b : ℕ) (x : Float) → Within b x → Within b (neg x)
unfolding neg
within-neg b nan h = h
within-neg b (inf s) h = h
within-neg b (fin s m e) h = h

-- ---- a number that was rounded without a sign has none

abbrev plus : Float → Bool
plus nan = false
plus (inf s) = not s
plus (fin s m e) = not s

odd-plus : (d q k l : ℕ) → T (plus (odd d false q k l))
unfolding odd
odd-plus d zero k l = tt
odd-plus d (suc q) k l = tt

either-plus : (b : Bool) (x : Float) → T (plus x) → T (plus (cond b x (inf false)))
either-plus true x h = h
either-plus false x h = tt

units-plus : (q k : ℕ) → T (plus (units binary64 false q k))
unfolding units
units-plus q k =
    either-plus (ltb (q * 2 ^ k) (2 ^ (low binary64 + suc (emax binary64)))) (odd (suc (prec binary64)) false q k (low binary64))
    (odd-plus (suc (prec binary64)) q k (low binary64))

round-plus : (a c : ℕ) → T (plus (round binary64 false a c))
round-plus a c = subst (λ (x : Float). T (plus x)) (sym (round_is binary64 false a c)) (units-plus _ _)

-- ---- and is at most a power that its exact value does not pass

below : (k : ℕ) (x : Float) → T (plus x) → T (le x (fin false 1 (pos k))) → Within (2 ^ k) x
unfolding le lt eq
below k nan p h = absurd p
below k (inf true) p h = absurd p
below k (inf false) p h = absurd h
below k (fin true m e) p h = absurd p
below k (fin false zero e) p h = omega (arith, zero-mul (up e))
below k (fin false (suc m) e) p h =
    let c = le→cross (fin false (suc m) e) (fin false 1 (pos k)) (subst (λ (b : Bool). T b) (sym (lt-ltb 0 (suc m) (omega arith))) tt) tt h in
    omega (arith, c, mul-one (suc m * up e), one-mul (2 ^ k))

-- the power itself is a float
abbrev Exact : ℕ → Type 0
Exact k = round binary64 false (2 ^ k) 1 ≡ fin false 1 (pos k)

plain-within : (k : ℕ) → Exact k → (a c : ℕ) → 0 < c → a ≤ 2 ^ k * c → Within (2 ^ k) (round binary64 false a c)
plain-within k e a c hc h =
    below k (round binary64 false a c) (round-plus a c)
    (subst (λ (y : Float). T (le (round binary64 false a c) y)) e (round_mono binary64 a c (2 ^ k) 1 hc (omega arith) (le_trans (le_of_eq (mul-one a)) h)))

pub round-within : (k : ℕ) → Exact k → (s : Bool) (a c : ℕ) → 0 < c → a ≤ 2 ^ k * c → Within (2 ^ k) (round binary64 s a c)
round-within k e true a c hc h =
    subst (Within (2 ^ k)) (sym (round-neg binary64 false a c)) (within-neg (2 ^ k) (round binary64 false a c) (plain-within k e a c hc h))
round-within k e false a c hc h = plain-within k e a c hc h

-- ---- products and sums

exact-400 : Exact 400
unfolding round
exact-400 = refl

exact-401 : Exact 401
unfolding round
exact-401 = refl

times-times : (k x y : ℕ) → k * x * (k * y) ≡ k * k * (x * y)
times-times k x y = mul_assoc k x (k * y) ∙ ap (λ (z : ℕ). k * z) (mul_left_comm x k y) ∙ sym (mul_assoc k k (x * y))

squared-bound : 2 ^ 200 * 2 ^ 200 ≡ 2 ^ 400
squared-bound = refl

pub mul-within : (x y : Float) → allowed x ≡ true → allowed y ≡ true → Within (2 ^ 400) (mul binary64 x y)
unfolding allowed mul
mul-within nan y h g = absurd (false≢true h)
mul-within (inf s) y h g = absurd (false≢true h)
mul-within (fin s m e) nan h g = absurd (false≢true g)
mul-within (fin s m e) (inf t) h g = absurd (false≢true g)
mul-within (fin s m e) (fin t n d) h g =
    round-within 400 exact-400 (unlike s t) (m * up e * (n * up d)) (down e * down d) (mul-pos (down_pos e) (down_pos d))
    (le_trans (mul-le-mul (leb-true (m * up e) (2 ^ 200 * down e) h) (leb-true (n * up d) (2 ^ 200 * down d) g))
    (le_of_eq (times-times (2 ^ 200) (down e) (down d) ∙ ap (λ (b : ℕ). b * (down e * down d)) squared-bound)))

doubled : (k c : ℕ) → 2 ^ k * c + 2 ^ k * c ≡ 2 ^ suc k * c
doubled k c = sym (add-mul (2 ^ k) (2 ^ k) c) ∙ ap (λ (b : ℕ). b * c) (twice k)
  where
    twice : (k : ℕ) → 2 ^ k + 2 ^ k ≡ 2 ^ suc k
    twice k = omega (arith, pow-suc 2 k)

sum-within : (k : ℕ) → Exact (suc k) → (s t : Bool) (a b c : ℕ) → 0 < c → a ≤ 2 ^ k * c → b ≤ 2 ^ k * c → Within (2 ^ suc k) (sum binary64 s a t b c)
unfolding sum
sum-within k e s t a b c hc ha hb = go (beq s t) (ltb a b)
  where
    go : (p q : Bool)
        → Within (2 ^ suc k) (cond p (round binary64 s (a + b) c) (cond q (round binary64 t (b - a) c) (round binary64 (s && ltb b a) (a - b) c)))
    go true q = round-within (suc k) e s (a + b) c hc (omega (arith, ha, hb, doubled k c))
    go false true = round-within (suc k) e t (b - a) c hc (omega (arith, ha, hb, doubled k c))
    go false false = round-within (suc k) e (s && ltb b a) (a - b) c hc (omega (arith, ha, hb, doubled k c))

crossed : (k x d e : ℕ) → x ≤ 2 ^ k * e → x * d ≤ 2 ^ k * (e * d)
crossed k x d e h = le_trans (mul-le-mul_right d h) (le_of_eq (mul_assoc (2 ^ k) e d))

pub add-within : (p q : Float) → Within (2 ^ 400) p → Within (2 ^ 400) q → Within (2 ^ 401) (add binary64 p q)
unfolding add
add-within nan q h g = h
add-within (inf s) q h g = absurd h
add-within (fin s m e) nan h g = g
add-within (fin s m e) (inf t) h g = absurd g
add-within (fin s m e) (fin t n d) h g =
    sum-within 400 exact-401 s t (m * up e * down d) (n * up d * down e) (down e * down d) (mul-pos (down_pos e) (down_pos d))
    (crossed 400 (m * up e) (down d) (down e) h)
    (le_trans (crossed 400 (n * up d) (down e) (down d) g) (le_of_eq (ap (λ (x : ℕ). 2 ^ 400 * x) (mul_comm (down d) (down e)))))
