-- Four entries at once: the rows of the offsets a0 and a1 by the columns of b0 and b1. Assumes nothing.
use Rattle.std.specs.Prelude.{◌≡◌, List, ℕ, ◌*◌, ◌≤◌, ◌<◌, ◌^◌, Float, length}
use Rattle.complex.specs.declared.Complex.{Complex}
use Rattle.complex.specs.Arithmetic.{sum_of, product, conjugate}
use Rattle.density_entries.specs.declared.Block.{Block}
use Rattle.density_entries.specs.Entries.{entry_sum}

abbrev pub block_of : Complex → Complex → Complex → Complex → Block
block_of p q r s = record { first = p; second = q; third = r; fourth = s }

-- one more term to an entry's sum
abbrev pub added : Complex → Complex → Complex → Complex
added s a b = sum_of s (product a (conjugate b))

-- one more term to each of the four
unfoldable pub block_step : Block → Complex → Complex → Complex → Complex → Block
block_step k a0 a1 b0 b1 = block_of (added k.first a0 b0) (added k.second a0 b1) (added k.third a1 b0) (added k.fourth a1 b1)

-- the four sums over the first m submasks
unfoldable pub block_sums : ℕ → List Float → ℕ → ℕ → ℕ → ℕ → ℕ → ℕ → Block
block_sums n s mask m a0 a1 b0 b1 =
    block_of (entry_sum n s mask m a0 b0) (entry_sum n s mask m a0 b1) (entry_sum n s mask m a1 b0) (entry_sum n s mask m a1 b1)

-- ---- the loop over the submasks

-- what the loop asks: a register's state, a mask and four offsets of the register
pub record Reach (n : ℕ) (s : List Float) (mask a0 a1 b0 b1 : ℕ) : Type 0 where
  pub small : n ≤ 12
  pub long : length s ≡ 2 * 2 ^ n
  pub mask_lt : mask < 2 ^ n
  pub a0-lt : a0 < 2 ^ n
  pub a1-lt : a1 < 2 ^ n
  pub b0-lt : b0 < 2 ^ n
  pub b1-lt : b1 < 2 ^ n
