-- Laws of what `specs/Scale.antt` defines. Assumes nothing.
use mathlib.Core.Path.{◌≡◌, refl, sym, ap, ◌∙◌, subst}
use mathlib.Core.Bool.{Bool, true, false, cond, true≢false}
use Prim.Native.Nat.{ℕ, zero, suc, ◌*◌, ◌^◌, ◌≤◌, ◌<◌}
use native.Mathlib.Nat.{le_of_eq, le_trans, le_of_lt, lt_of_lt_of_le, lt_of_not-le, mul-one, mul_right_comm, mul-pos, lt_of_mul-lt-mul_right}
use borrow.Author.Tests.{le-leb}
use lib.Dec.{T, ltb}
use lib.Pow.{pow_pos}
use lib.IntN.{pos}
use lib.Ieee.{Float, nan, inf, fin, binary64, of_bits, up, down, odd, units, round, add, mul, lt, eq, le}
use lib.Ieee.Fits.{round_is, down_pos}
use lib.Ieee.Order.{round_mono}
use Rattle.numbers.specs.Numbers.{is_finite, allowed}
use Rattle.scaled.specs.Scale.{scale}

abbrev power : Float
power = fin false 1 (pos 824)

scale-is : scale ≡ power
unfolding of_bits
scale-is = refl

-- ---- a sum

pub sum-finite : (x y : Float) → is_finite (add binary64 x y) ≡ true → (is_finite x ≡ true) × (is_finite y ≡ true)
unfolding add is_finite
sum-finite nan y h = absurd (true≢false (sym h))
sum-finite (inf s) nan h = absurd (true≢false (sym h))
sum-finite (inf true) (inf true) h = absurd (true≢false (sym h))
sum-finite (inf true) (inf false) h = absurd (true≢false (sym h))
sum-finite (inf false) (inf true) h = absurd (true≢false (sym h))
sum-finite (inf false) (inf false) h = absurd (true≢false (sym h))
sum-finite (inf s) (fin t n d) h = absurd (true≢false (sym h))
sum-finite (fin s m e) nan h = absurd (true≢false (sym h))
sum-finite (fin s m e) (inf t) h = absurd (true≢false (sym h))
sum-finite (fin s m e) (fin t n d) h = (refl, refl)

-- ---- whether a rounded fraction is finite does not turn on its sign

odd-finite : (d : ℕ) (s : Bool) (q k l : ℕ) → is_finite (odd d s q k l) ≡ true
unfolding odd is_finite
odd-finite d s zero k l = refl
odd-finite d s (suc q) k l = refl

units-finite : (s : Bool) (q k : ℕ) → is_finite (units binary64 s q k) ≡ is_finite (units binary64 false q k)
unfolding units is_finite
units-finite s q k = pick (ltb (q * 2 ^ k) (2 ^ 2098))
  where
    pick : (b : Bool) → is_finite (cond b (odd 54 s q k 1074) (inf s)) ≡ is_finite (cond b (odd 54 false q k 1074) (inf false))
    pick true = odd-finite 54 s q k 1074 ∙ sym (odd-finite 54 false q k 1074)
    pick false = refl

round-finite : (s : Bool) (a c : ℕ) → is_finite (round binary64 s a c) ≡ is_finite (round binary64 false a c)
round-finite s a c = ap is_finite (round_is binary64 s a c) ∙ units-finite s _ _ ∙ sym (ap is_finite (round_is binary64 false a c))

-- ---- a fraction that rounds to a finite float is below 2 ^ 1024

overflows : round binary64 false (2 ^ 1024) 1 ≡ inf false
unfolding round
overflows = refl

above-infinity : (r : Float) → T (le (inf false) r) → is_finite r ≡ true → ⊥
unfolding le lt eq is_finite
above-infinity nan t h = absurd t
above-infinity (inf s) t h = true≢false (sym h)
above-infinity (fin s m e) t h = absurd t

round-below : (a c : ℕ) → 0 < c → is_finite (round binary64 false a c) ≡ true → a < 2 ^ 1024 * c
round-below a c C h =
    lt_of_not-le (λ (g : 2 ^ 1024 * c ≤ a).
    above-infinity (round binary64 false a c)
    (subst (λ (x : Float). T (le x (round binary64 false a c))) overflows
    (round_mono binary64 (2 ^ 1024) 1 a c (pow_pos 0) C (le_trans g (le_of_eq (sym (mul-one a))))))
    h)

-- ---- a number times 2 ^ 824

small : (v w : ℕ) → v * 2 ^ 824 < 2 ^ 1024 * (w * 1) → v ≤ 2 ^ 200 * w
small v w h =
    le_of_lt (lt_of_mul-lt-mul_right (2 ^ 824)
    (lt_of_lt_of_le h (le_of_eq (ap (λ (x : ℕ). 2 ^ 1024 * x) (mul-one w) ∙ sym (mul_right_comm (2 ^ 200) w (2 ^ 824))))))

times_power : (x : Float) → is_finite (mul binary64 x power) ≡ true → allowed x ≡ true
unfolding mul is_finite allowed
times_power nan h = h
times_power (inf true) h = h
times_power (inf false) h = h
times_power (fin s m e) h =
    le-leb _ _
    (small (m * up e) (down e) (round-below (m * up e * 2 ^ 824) (down e * 1) (mul-pos (down_pos e) (pow_pos 0)) (sym (round-finite _ (m * up e * 2 ^ 824) (down e * 1)) ∙ h)))

pub scaled-finite : (x : Float) → is_finite (mul binary64 x scale) ≡ true → allowed x ≡ true
scaled-finite x h = times_power x (ap (λ (c : Float). is_finite (mul binary64 x c)) (sym scale-is) ∙ h)
