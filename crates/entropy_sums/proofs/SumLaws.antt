-- The weights left: how many they are, their sum and the sums over their bands, and that none overflows. Assumes nothing.
use mathlib.Core.Path.{◌≡◌, refl, sym, ap, ◌∙◌}
use mathlib.Core.List.{List, [], ◌∷◌}
use Prim.Native.Nat.{ℕ, zero, suc, ◌+◌, ◌*◌, ◌^◌, ◌≤◌, ◌<◌}
use native.Mathlib.Nat.{mul-le-mul_left}
use native.Mathlib.Omega.{arith}
use lib.ListN.{length, get_or, drop, drop_of_length-le}
use lib.Seq.{drop-cons}
use lib.Ieee.{Float, nan}
use Rattle.entropy_weights.specs.Weights.{weight_of}
use Rattle.entropy_weights.proofs.Theorems.{weight-small}
use Rattle.entropy_powers.specs.Powers.{powers_of, lo_of, hi_of}
use Rattle.entropy_powers.proofs.BandLaws.{powers-sized, band-small}
use Rattle.entropy_sums.specs.Sums.{kept_weight, weights_left, weight_sum, low_sum, high_sum, whole_weight}

-- ---- one value more

left-cons : (x : Float) (l : List Float) → weights_left (x ∷ l) ≡ kept_weight (weight_of x) (weights_left l)
unfolding weights_left
left-cons x l = refl

pub left_at : (v : List Float) (i : ℕ) → i < length v → weights_left (drop i v) ≡ kept_weight (weight_of (get_or v i nan)) (weights_left (drop (suc i) v))
left_at v i h = ap weights_left (drop-cons v i nan h) ∙ left-cons (get_or v i nan) (drop (suc i) v)

pub left_end : (v : List Float) (i : ℕ) → length v ≤ i → weights_left (drop i v) ≡ []
unfolding weights_left
left_end v i h = ap weights_left (drop_of_length-le v h)

sum_kept : (w : ℕ) (l : List ℕ) → weight_sum (kept_weight w l) ≡ w + weight_sum l
unfolding kept_weight weight_sum
sum_kept zero l = omega arith
sum_kept (suc w) l = refl

count_kept : (w : ℕ) (l : List ℕ) → length (kept_weight w l) ≤ suc (length l)
unfolding kept_weight
count_kept zero l = omega arith
count_kept (suc w) l = omega arith

-- no more weights than values
pub left-few : (v : List Float) → length (weights_left v) ≤ length v
unfolding weights_left
left-few [] = omega arith
left-few (x ∷ l) = omega (arith, count_kept (weight_of x) (weights_left l), left-few l)

-- each is below 2^26
pub sum-most : (v : List Float) → weight_sum (weights_left v) + length v ≤ length v * 2 ^ 26
unfolding weights_left weight_sum
sum-most [] = omega arith
sum-most (x ∷ l) = omega (arith, sum_kept (weight_of x) (weights_left l), sum-most l, weight-small x)

pub whole-few : (v : List Float) → length v ≤ 64 → whole_weight v ≤ 2 ^ 32
whole-few v h = omega (arith, sum-most v)

pub whole-less : (v : List Float) → length v ≤ 64 → whole_weight v < 2 ^ 32
whole-less [] h = omega (arith, sum-most [])
whole-less (x ∷ l) h = omega (arith, sum-most (x ∷ l))

-- none is left exactly where the sum is 0
pub none_left : (v : List Float) → weight_sum (weights_left v) ≡ 0 → weights_left v ≡ []
unfolding weights_left kept_weight
none_left [] h = refl
none_left (x ∷ l) h = go (weight_of x) (none_left l) (sym (sum_kept (weight_of x) (weights_left l)) ∙ h)
  where
    go : (w : ℕ) → (weight_sum (weights_left l) ≡ 0 → weights_left l ≡ []) → w + weight_sum (weights_left l) ≡ 0 → kept_weight w (weights_left l) ≡ []
    go zero f e = f (omega (arith, e))
    go (suc w) f e = absurd (omega (arith, e))

pub some_left : (l : List ℕ) → 0 < weight_sum l → 0 < length l
unfolding weight_sum
some_left [] h = absurd (omega (arith, h))
some_left (w ∷ l) h = omega arith

-- ---- the sum's loop

pub record Summed (v : List Float) (sum i : ℕ) : Type 0 where
  pub inside : i ≤ length v
  pub rest : sum + weight_sum (weights_left (drop i v)) ≡ weight_sum (weights_left v)

pub summed-none : (v : List Float) → Summed v 0 0
summed-none v = record { inside = omega arith; rest = omega arith }

module _ (v : List Float) (sum i w : ℕ) (s : Summed v sum i) (h : i < length v) (e : w ≡ weight_of (get_or v i nan)) where
  next : sum + (w + weight_sum (weights_left (drop (suc i) v))) ≡ weight_sum (weights_left v)
  next =
      ap (λ (y : ℕ). sum + (y + weight_sum (weights_left (drop (suc i) v)))) e
      ∙ ap (λ (y : ℕ). sum + y) (sym (sum_kept (weight_of (get_or v i nan)) (weights_left (drop (suc i) v))) ∙ ap weight_sum (sym (left_at v i h)))
      ∙ s.rest

  pub summed-fits : length v ≤ 64 → sum + w ≤ 2 ^ 32
  summed-fits few = omega (arith, next, whole-few v few)

  pub summed-more : Summed v (sum + w) (i + 1)
  summed-more =
      let z : i + 1 ≡ suc i = omega arith in
      record { inside = omega arith; rest = ap (λ (y : ℕ). sum + w + weight_sum (weights_left (drop y v))) z ∙ omega (arith, next) }

pub summed-end : (v : List Float) (sum i : ℕ) → Summed v sum i → length v ≤ i → sum ≡ weight_sum (weights_left v)
unfolding weight_sum
summed-end v sum i s h = omega (arith, s.rest, ap weight_sum (left_end v i h))

-- ---- the sums over the bands

module _ (all : ℕ) (some : 0 < all) (few : all < 2 ^ 32) where
  lo-most : (w : ℕ) → 0 < w → w < 2 ^ 32 → lo_of w all ≤ 2 ^ 18
  lo-most w p h = (band-small (powers_of w) (powers_of all) (powers-sized w p h) (powers-sized all some few)).0

  hi-most : (w : ℕ) → 0 < w → w < 2 ^ 32 → hi_of w all ≤ 2 ^ 18
  hi-most w p h = (band-small (powers_of w) (powers_of all) (powers-sized w p h) (powers-sized all some few)).1

  low-kept : (w : ℕ) (l : List ℕ) → w < 2 ^ 32 → low_sum all l ≤ weight_sum l * 2 ^ 18 → low_sum all (kept_weight w l) ≤ weight_sum (kept_weight w l) * 2 ^ 18
  unfolding kept_weight low_sum weight_sum
  low-kept zero l h k = k
  low-kept (suc w) l h k =
      let p : suc w * lo_of (suc w) all ≤ suc w * 2 ^ 18 = mul-le-mul_left (suc w) (lo-most (suc w) (omega arith) h) in
      omega (arith, p, k)

  high-kept : (w : ℕ) (l : List ℕ) → w < 2 ^ 32 → high_sum all l ≤ weight_sum l * 2 ^ 18 → high_sum all (kept_weight w l) ≤ weight_sum (kept_weight w l) * 2 ^ 18
  unfolding kept_weight high_sum weight_sum
  high-kept zero l h k = k
  high-kept (suc w) l h k =
      let p : suc w * hi_of (suc w) all ≤ suc w * 2 ^ 18 = mul-le-mul_left (suc w) (hi-most (suc w) (omega arith) h) in
      omega (arith, p, k)

  pub low-most : (v : List Float) → low_sum all (weights_left v) ≤ weight_sum (weights_left v) * 2 ^ 18
  unfolding weights_left low_sum weight_sum
  low-most [] = omega arith
  low-most (x ∷ l) = low-kept (weight_of x) (weights_left l) (omega (arith, weight-small x)) (low-most l)

  pub high-most : (v : List Float) → high_sum all (weights_left v) ≤ weight_sum (weights_left v) * 2 ^ 18
  unfolding weights_left high_sum weight_sum
  high-most [] = omega arith
  high-most (x ∷ l) = high-kept (weight_of x) (weights_left l) (omega (arith, weight-small x)) (high-most l)
