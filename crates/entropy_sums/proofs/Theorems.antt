-- What the bands of the weights left of at most 64 values say. Assumes nothing.
use Prim.Native.Nat.{ℕ, ◌+◌, ◌*◌, ◌^◌, ◌≤◌, ◌<◌}
use native.Mathlib.Omega.{arith}
use mathlib.Core.List.{List}
use lib.Ieee.{Float}
use lib.ListN.{length, get_or}
use Rattle.entropy_powers.specs.Powers.{lo_of, hi_of}
use Rattle.entropy_powers.proofs.Theorems.{band-lower, band-upper, band-narrow}
use Rattle.entropy_sums.specs.Sums.{weights_left, whole_weight, low_sum, high_sum, weight_powers}
use Rattle.entropy_sums.proofs.SumLaws.{whole-less}
use Rattle.entropy_sums.proofs.Product.{Parts, parts-left, part_at, product-low, product_high}

module _ (values : List Float) (few : length values ≤ 64) where
  parts : Parts (whole_weight values) (weights_left values)
  parts = parts-left (whole_weight values) values (omega arith)

  whole-lt : whole_weight values < 2 ^ 32
  whole-lt = whole-less values few

  -- Each weight left is more than 0 and at most the whole.
  pub weight-part : (i : ℕ) → i < length (weights_left values) → (0 < get_or (weights_left values) i 0) × (get_or (weights_left values) i 0 ≤ whole_weight values)
  weight-part i h = part_at (whole_weight values) (weights_left values) i parts h

  -- Each weight w left has 2^lo * w^4096 at most W^4096,
  pub weights-lower : (i : ℕ) → i < length (weights_left values)
      → 2 ^ lo_of (get_or (weights_left values) i 0) (whole_weight values) * get_or (weights_left values) i 0 ^ 4096 ≤ whole_weight values ^ 4096
  weights-lower i h = let p = weight-part i h in band-lower (get_or (weights_left values) i 0) (whole_weight values) p.0 p.1 whole-lt

  -- and 2^hi * w^4096 at least W^4096;
  pub weights-upper : (i : ℕ) → i < length (weights_left values)
      → whole_weight values ^ 4096 ≤ 2 ^ hi_of (get_or (weights_left values) i 0) (whole_weight values) * get_or (weights_left values) i 0 ^ 4096
  weights-upper i h = let p = weight-part i h in band-upper (get_or (weights_left values) i 0) (whole_weight values) p.0 p.1 whole-lt

  -- hi is at most lo + 2.
  pub weights-narrow : (i : ℕ) → i < length (weights_left values)
      → hi_of (get_or (weights_left values) i 0) (whole_weight values) ≤ lo_of (get_or (weights_left values) i 0) (whole_weight values) + 2
  weights-narrow i h = let p = weight-part i h in band-narrow (get_or (weights_left values) i 0) (whole_weight values) p.0 p.1 whole-lt

  -- All together, without a logarithm: 2^(the sum of w*lo) times the product of w^(4096w) is at most W^(4096W),
  pub entropy-lower : 2 ^ low_sum (whole_weight values) (weights_left values) * weight_powers (weights_left values) ≤ whole_weight values ^ (4096 * whole_weight values)
  entropy-lower = product-low (whole_weight values) whole-lt (weights_left values) parts

  -- and with the sum of w*hi at least: the entropy of these weights in bits lies between the two sums over 4096W.
  pub entropy-upper : whole_weight values ^ (4096 * whole_weight values) ≤ 2 ^ high_sum (whole_weight values) (weights_left values) * weight_powers (weights_left values)
  entropy-upper = product_high (whole_weight values) whole-lt (weights_left values) parts
