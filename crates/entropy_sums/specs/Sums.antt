-- The weights left of Schmidt values, their sum, each one's band in the sum, and the sums over the bands. Definitions only.
use Rattle.std.specs.Prelude.{◌≡◌, List, [], ◌∷◌, ◌++◌, ℕ, zero, suc, ◌+◌, ◌-◌, ◌*◌, ◌^◌, ◌≤◌, ◌<◌, length, set, replicate, Float}
use Rattle.entropy_weights.specs.Weights.{weight_of}
use Rattle.entropy_powers.specs.declared.Powers.{Powers}
use Rattle.entropy_powers.specs.declared.Band.{Band}
use Rattle.entropy_powers.specs.Powers.{PowersSized, powers_of, band_of, lo_of, hi_of}
use Rattle.entropy_sums.specs.declared.Sums.{Sums}

-- a zero is dropped
unfoldable pub kept_weight : ℕ → List ℕ → List ℕ
kept_weight zero l = l
kept_weight (suc w) l = suc w ∷ l

-- the weights of the values, in their order, without the zeros
unfoldable pub weights_left : List Float → List ℕ
weights_left [] = []
weights_left (x ∷ l) = kept_weight (weight_of x) (weights_left l)

unfoldable pub weight_sum : List ℕ → ℕ
weight_sum [] = 0
weight_sum (w ∷ l) = w + weight_sum l

-- w, lo and hi of each weight
unfoldable pub bands_of : ℕ → List ℕ → List ℕ
bands_of all [] = []
bands_of all (w ∷ l) = w ∷ lo_of w all ∷ hi_of w all ∷ bands_of all l

-- the sums of w*lo and of w*hi
unfoldable pub low_sum : ℕ → List ℕ → ℕ
low_sum all [] = 0
low_sum all (w ∷ l) = w * lo_of w all + low_sum all l

unfoldable pub high_sum : ℕ → List ℕ → ℕ
high_sum all [] = 0
high_sum all (w ∷ l) = w * hi_of w all + high_sum all l

-- the product of each weight to the power of 4096 times itself
unfoldable pub weight_powers : List ℕ → ℕ
weight_powers [] = 1
weight_powers (w ∷ l) = w ^ (4096 * w) * weight_powers l

-- the sum of the weights left of values
abbrev pub whole_weight : List Float → ℕ
whole_weight values = weight_sum (weights_left values)

-- ---- the steps

abbrev pub set_band : List ℕ → ℕ → ℕ → Band → List ℕ
set_band l k w b = set (set (set l (3 * k) w) (3 * k + 1) b.low) (3 * k + 2) b.high

unfoldable pub bands_with : ℕ → Powers → Sums → List ℕ → List ℕ
bands_with zero all s l = l
bands_with (suc w) all s l = set_band l s.count (suc w) (band_of (powers_of (suc w)) all)

abbrev pub sums_at : ℕ → ℕ → ℕ → Sums
sums_at k l h = record { count = k; low = l; high = h }

unfoldable pub sums_with : ℕ → Powers → Sums → Sums
sums_with zero all s = s
sums_with (suc w) all s =
    sums_at (s.count + 1) (s.low + suc w * (band_of (powers_of (suc w)) all).low) (s.high + suc w * (band_of (powers_of (suc w)) all).high)

-- there is room for one weight more, and no sum overflows
pub record SumsFit (w : ℕ) (all : Powers) (s : Sums) (room : ℕ) : Type 0 where
  pub few : w < 2 ^ 32
  pub sized : PowersSized all
  pub place : 0 < w → 3 * s.count + 2 < room
  pub low_fits : s.low < 2 ^ 62
  pub high_fits : s.high < 2 ^ 62

pub record FillReady (values : List Float) (all : Powers) (bands : List ℕ) : Type 0 where
  pub few : length values ≤ 64
  pub some : 0 < whole_weight values
  pub powers : all ≡ powers_of (whole_weight values)
  pub long : 3 * length values ≤ length bands
  pub blank : bands ≡ replicate (length bands) 0

-- the bands of the weights left, then zeros
pub record Filled (values : List Float) (room : ℕ) (r : Sums) (end : List ℕ) : Type 0 where
  pub count-is : r.count ≡ length (weights_left values)
  pub low-is : r.low ≡ low_sum (whole_weight values) (weights_left values)
  pub high_is : r.high ≡ high_sum (whole_weight values) (weights_left values)
  pub bands-are : end ≡ bands_of (whole_weight values) (weights_left values) ++ replicate (room - 3 * length (weights_left values)) 0
