-- Bounds of the 4096th power of a whole number by twelve squarings, and how many powers of two lie between two such powers. Definitions only.
use Rattle.std.specs.Prelude.{cond, ℕ, zero, suc, ◌+◌, ◌-◌, ◌*◌, ◌/◌, ◌^◌, ◌≤◌, ◌<◌, ltb, leb, eqb}
use Rattle.std.specs.Int.Count.{count_leading_zeros}
use Rattle.entropy_powers.specs.declared.Bounds.{Bounds}
use Rattle.entropy_powers.specs.declared.Powers.{Powers}
use Rattle.entropy_powers.specs.declared.Band.{Band}

-- ---- the bounds of a power

-- half of y, rounded down and up: with 2^1 they bound y
unfoldable pub halves_of : ℕ → Bounds
halves_of y = record { low = y / 2; high = (y + 1) / 2; power = 1 }

-- the squares of the bounds over 2^t, the low one rounded down, the high one up
unfoldable pub rounded_to : ℕ → Bounds → Bounds
rounded_to t b = record { low = b.low * b.low / 2 ^ t; high = (b.high * b.high + (2 ^ t - 1)) / 2 ^ t; power = 2 * b.power + t }

-- t so that the low bound has 31 digits again
unfoldable pub squared_of : Bounds → Bounds
squared_of b = cond (ltb (b.low * b.low) (2 ^ 61)) (rounded_to 30 b) (rounded_to 31 b)

unfoldable pub squarings : ℕ → Bounds → Bounds
squarings zero b = b
squarings (suc k) b = squared_of (squarings k b)

-- x moved up so that the highest of 32 digits is set
unfoldable pub full_of : ℕ → ℕ
full_of x = x * 2 ^ count_leading_zeros 32 x

abbrev pub powers_at : ℕ → ℕ → Bounds → Powers
powers_at digits up b = record { digits = digits; up = up; low = b.low; high = b.high; power = b.power }

-- the digits, how far they were moved, and the bounds of their 4096th power
unfoldable pub powers_of : ℕ → Powers
powers_of x = powers_at (full_of x) (count_leading_zeros 32 x) (squarings 12 (halves_of (full_of x)))

-- ---- the band

-- how often a is doubled until it is at least b: 0, 1, or else 2
unfoldable pub doublings_of : ℕ → ℕ → ℕ
doublings_of b a = cond (leb b a) 0 (cond (leb b (2 * a)) 1 2)

abbrev pub band_at : ℕ → ℕ → Band
band_at l h = record { low = l; high = h }

-- the powers of two between the bounds' own powers
unfoldable pub between_of : Powers → Powers → ℕ
between_of p q = (q.power + 4096 * p.up) - (p.power + 4096 * q.up)

-- the same digits: the number is the other times a power of two, and the band is exact; else it is as wide as the bounds leave it
unfoldable pub band_of : Powers → Powers → Band
band_of p q =
    cond (eqb p.digits q.digits) (band_at (4096 * (p.up - q.up)) (4096 * (p.up - q.up)))
    (band_at (between_of p q - doublings_of p.high q.low) (between_of p q + doublings_of q.high p.low))

-- the band of a part w of a whole W
abbrev pub lo_of : ℕ → ℕ → ℕ
lo_of w all = (band_of (powers_of w) (powers_of all)).low

abbrev pub hi_of : ℕ → ℕ → ℕ
hi_of w all = (band_of (powers_of w) (powers_of all)).high

-- ---- what is kept through the squarings

-- after k of them the low bound has 31 digits, and the high one is less than 2^(2k + 1) above it
pub record Narrow (k : ℕ) (b : Bounds) : Type 0 where
  pub least : 2 ^ 30 ≤ b.low
  pub most : b.low < 2 ^ 31
  pub order : b.low ≤ b.high
  pub near : b.high < b.low + 2 ^ (2 * k + 1)
  pub power_small : b.power + 31 ≤ 2 ^ (k + 5)

-- what twelve of them leave
pub record PowersSized (p : Powers) : Type 0 where
  pub up-few : p.up ≤ 31
  pub least : 2 ^ 30 ≤ p.low
  pub most : p.low < 2 ^ 31
  pub order : p.low ≤ p.high
  pub near : p.high < p.low + 2 ^ 25
  pub power_small : p.power + 31 ≤ 2 ^ 17
