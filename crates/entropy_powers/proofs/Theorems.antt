-- What the band of a part of a whole is. Assumes nothing.
use mathlib.Core.Path.{◌≡◌}
use Prim.Native.Nat.{ℕ, ◌+◌, ◌*◌, ◌^◌, ◌≤◌, ◌<◌}
use Rattle.entropy_powers.specs.Powers.{powers_of, lo_of, hi_of}
use Rattle.entropy_powers.proofs.BandLaws.{powers-sized, band-width, band-small}
use Rattle.entropy_powers.proofs.PowerLaws.{lower, upper, exact}
use native.Mathlib.Omega.{arith}

module _ (w all : ℕ) (some : 0 < w) (part : w ≤ all) (few : all < 2 ^ 32) where
  -- The low end: 2^lo times the part's 4096th power is at most the whole's.
  pub band-lower : 2 ^ lo_of w all * w ^ 4096 ≤ all ^ 4096
  band-lower = lower w all some part few

  -- The high end: the whole's 4096th power is at most 2^hi times the part's.
  pub band-upper : all ^ 4096 ≤ 2 ^ hi_of w all * w ^ 4096
  band-upper = upper w all some part few

  -- The two ends are at most 2 apart.
  pub band-narrow : hi_of w all ≤ lo_of w all + 2
  band-narrow = band-width (powers_of w) (powers_of all) (powers-sized w some (omega arith)) (powers-sized all (omega arith) few)

  -- Neither end is over 2^18.
  pub band-few : (lo_of w all ≤ 2 ^ 18) × (hi_of w all ≤ 2 ^ 18)
  band-few = band-small (powers_of w) (powers_of all) (powers-sized w some (omega arith)) (powers-sized all (omega arith) few)

-- Where the whole is the part times 2^k, both ends are 4096k: the band is exact.
pub band-exact : (w k : ℕ) → 0 < w → w * 2 ^ k < 2 ^ 32 → (lo_of w (w * 2 ^ k) ≡ 4096 * k) × (hi_of w (w * 2 ^ k) ≡ 4096 * k)
band-exact w k some few = exact w k some few
