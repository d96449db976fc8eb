-- What the order rests on of `lt` on floats: two are never each less than the other, and a number that is not above the lesser of two is below
-- the greater. Assumes nothing.
use mathlib.Core.Path.{◌≡◌, refl, ◌∙◌}
use mathlib.Core.Bool.{Bool, true, false}
use Prim.Native.Nat.{ℕ, zero, suc, ◌+◌, ◌*◌, ◌≤◌, ◌<◌}
use native.Mathlib.Nat.{lt_of_le_of_lt, lt_of_lt_of_le, zero-mul, mul_right_comm, mul-le-mul_right, mul-lt-mul_of_pos_right, lt_of_mul-lt-mul_right, mul-pos}
use native.Mathlib.Omega.{arith}
use lib.Dec.{ltb}
use borrow.Author.Tests.{lt-ltb, le-ltb, ltb-true, ltb-false}
use lib.Ieee.{Float, nan, inf, fin, up, down, lt, is_nan}
use lib.Ieee.Fits.{down_pos}
use lib.Ieee.Positive.{first_pos}

-- fractions: c ≤ a and a < b give c < b
chain : (na da nb db nc dc : ℕ) → 0 < da → 0 < dc → nc * da ≤ na * dc → na * db < nb * da → nc * db < nb * dc
chain na da nb db nc dc pa pc h k =
    let l : nc * db * da ≤ na * db * dc = rw (mul_right_comm nc db da, mul_right_comm na db dc) (mul-le-mul_right db h) in
    let m : na * db * dc < nb * da * dc = mul-lt-mul_of_pos_right k pc in
    let o : nc * db * da < nb * dc * da = rw (mul_right_comm nb dc da) (lt_of_le_of_lt l m) in
    lt_of_mul-lt-mul_right da o

-- and b < a ≤ c gives b < c
chain-down : (na da nb db nc dc : ℕ) → 0 < da → 0 < dc → na * dc ≤ nc * da → nb * da < na * db → nb * dc < nc * db
chain-down na da nb db nc dc pa pc h k =
    let l : nb * da * dc < na * db * dc = mul-lt-mul_of_pos_right k pc in
    let m : na * db * dc ≤ nc * db * da = rw (mul_right_comm na db dc, mul_right_comm nc db da) (mul-le-mul_right db h) in
    let o : nb * dc * da < nc * db * da = rw (mul_right_comm nb dc da) (lt_of_lt_of_le l m) in
    lt_of_mul-lt-mul_right da o

-- a product is 0 only where its first factor is
first-zero : (n d : ℕ) → 0 < d → n * d ≡ 0 → n ≡ 0
first-zero n d p e = pick n refl
  where
    pick : (k : ℕ) → n ≡ k → n ≡ 0
    pick zero i = i
    pick (suc k) i =
        let q : 0 < n * d = mul-pos (omega arith) p in
        absurd (omega arith)

sum-zero : (b : Bool) (x y : ℕ) → ltb 0 (x + y) ≡ b → b ≡ false → (x ≡ 0) × (y ≡ 0)
sum-zero b x y e f =
    let h : x + y ≤ 0 = ltb-false 0 (x + y) (e ∙ f) in
    (omega arith, omega arith)

pub lt-asym : (x y : Float) → lt x y ≡ true → lt y x ≡ false
unfolding lt
lt-asym nan y h = cc
lt-asym (inf s) nan h = cc
lt-asym (inf true) (inf true) h = refl
lt-asym (inf true) (inf false) h = refl
lt-asym (inf false) (inf t) h = cc
lt-asym (inf true) (fin t n d) h = refl
lt-asym (inf false) (fin t n d) h = cc
lt-asym (fin s m e) nan h = cc
lt-asym (fin s m e) (inf true) h = cc
lt-asym (fin s m e) (inf false) h = refl
lt-asym (fin false m e) (fin false n d) h =
    let g : m * up e * down d < n * up d * down e = ltb-true (m * up e * down d) (n * up d * down e) h in
    le-ltb (n * up d * down e) (m * up e * down d) (omega arith)
lt-asym (fin false m e) (fin true n d) h = cc
lt-asym (fin true m e) (fin false n d) h = refl
lt-asym (fin true m e) (fin true n d) h =
    let g : n * up d * down e < m * up e * down d = ltb-true (n * up d * down e) (m * up e * down d) h in
    le-ltb (m * up e * down d) (n * up d * down e) (omega arith)

-- a < b, and c is not above a: c < b
pub lt-under : (a b c : Float) → lt a b ≡ true → lt a c ≡ false → is_nan c ≡ false → lt c b ≡ true
unfolding lt is_nan
lt-under nan b c h g n = cc
lt-under (inf s) nan c h g n = cc
lt-under (inf false) (inf t) c h g n = cc
lt-under (inf false) (fin t m e) c h g n = cc
lt-under (inf true) (inf true) c h g n = cc
lt-under (inf true) (inf false) nan h g n = cc
lt-under (inf true) (inf false) (inf true) h g n = refl
lt-under (inf true) (inf false) (inf false) h g n = cc
lt-under (inf true) (inf false) (fin u k i) h g n = cc
lt-under (inf true) (fin t m e) nan h g n = cc
lt-under (inf true) (fin t m e) (inf true) h g n = refl
lt-under (inf true) (fin t m e) (inf false) h g n = cc
lt-under (inf true) (fin t m e) (fin u k i) h g n = cc
lt-under (fin s p f) nan c h g n = cc
lt-under (fin s p f) (inf true) c h g n = cc
lt-under (fin s p f) (inf false) nan h g n = cc
lt-under (fin s p f) (inf false) (inf true) h g n = refl
lt-under (fin s p f) (inf false) (inf false) h g n = cc
lt-under (fin s p f) (inf false) (fin u k i) h g n = refl
lt-under (fin s p f) (fin t m e) nan h g n = cc
lt-under (fin s p f) (fin t m e) (inf true) h g n = refl
lt-under (fin s p f) (fin t m e) (inf false) h g n = cc
lt-under (fin false p f) (fin true m e) (fin u k i) h g n = cc
lt-under (fin false p f) (fin false m e) (fin false k i) h g n =
    lt-ltb _ _
    (chain (p * up f) (down f) (m * up e) (down e) (k * up i) (down i) (down_pos f) (down_pos i)
    (ltb-false (p * up f * down i) (k * up i * down f) g)
    (ltb-true (p * up f * down e) (m * up e * down f) h))
lt-under (fin false p f) (fin false m e) (fin true k i) h g n =
    let l : p * up f * down e < m * up e * down f = ltb-true (p * up f * down e) (m * up e * down f) h in
    let q : 0 < m * up e = first_pos (m * up e) (down f) (omega arith) in
    let r : 0 < m * up e * down i = mul-pos q (down_pos i) in
    lt-ltb 0 (k * up i * down e + m * up e * down i) (omega arith)
lt-under (fin true p f) (fin false m e) (fin false k i) h g n =
    let z = sum-zero false (p * up f * down i) (k * up i * down f) g refl in
    let np : p * up f ≡ 0 = first-zero (p * up f) (down i) (down_pos i) z.0 in
    let nk : k * up i ≡ 0 = first-zero (k * up i) (down f) (down_pos f) z.1 in
    let l : 0 < p * up f * down e + m * up e * down f = ltb-true 0 (p * up f * down e + m * up e * down f) h in
    let x : p * up f * down e ≡ 0 = rw np (zero-mul (down e)) in
    let y : k * up i * down e ≡ 0 = rw nk (zero-mul (down e)) in
    let q : 0 < m * up e = first_pos (m * up e) (down f) (omega arith) in
    let r : 0 < m * up e * down i = mul-pos q (down_pos i) in
    lt-ltb (k * up i * down e) (m * up e * down i) (omega arith)
lt-under (fin true p f) (fin false m e) (fin true k i) h g n =
    let l : 0 < p * up f * down e + m * up e * down f = ltb-true 0 (p * up f * down e + m * up e * down f) h in
    let o : p * up f * down i ≤ k * up i * down f = ltb-false (k * up i * down f) (p * up f * down i) g in
    lt-ltb 0 (k * up i * down e + m * up e * down i) (pick (p * up f * down e) refl l o)
  where
    pick : (x : ℕ) → p * up f * down e ≡ x → 0 < p * up f * down e + m * up e * down f → p * up f * down i ≤ k * up i * down f
        → 0 < k * up i * down e + m * up e * down i
    pick zero w l o =
        let q : 0 < m * up e = first_pos (m * up e) (down f) (omega arith) in
        let r : 0 < m * up e * down i = mul-pos q (down_pos i) in
        omega arith
    pick (suc x) w l o =
        let q : 0 < p * up f = first_pos (p * up f) (down e) (omega arith) in
        let r : 0 < p * up f * down i = mul-pos q (down_pos i) in
        let v : 0 < k * up i = first_pos (k * up i) (down f) (omega arith) in
        let u : 0 < k * up i * down e = mul-pos v (down_pos e) in
        omega arith
lt-under (fin true p f) (fin true m e) (fin false k i) h g n =
    let z = sum-zero false (p * up f * down i) (k * up i * down f) g refl in
    let np : p * up f ≡ 0 = first-zero (p * up f) (down i) (down_pos i) z.0 in
    let l : m * up e * down f < p * up f * down e = ltb-true (m * up e * down f) (p * up f * down e) h in
    let x : p * up f * down e ≡ 0 = rw np (zero-mul (down e)) in
    absurd (omega arith)
lt-under (fin true p f) (fin true m e) (fin true k i) h g n =
    let l : m * up e * down f < p * up f * down e = ltb-true (m * up e * down f) (p * up f * down e) h in
    let o : p * up f * down i ≤ k * up i * down f = ltb-false (k * up i * down f) (p * up f * down i) g in
    lt-ltb (m * up e * down i) (k * up i * down e) (chain-down (p * up f) (down f) (m * up e) (down e) (k * up i) (down i) (down_pos f) (down_pos i) o l)
