-- The sums of a diagonal block: the real parts of both entries on the diagonal, and the entry below it. Assumes nothing.
use Rattle.std.specs.Prelude.{◌≡◌, List, ℕ, Float}
use Rattle.std.specs.Float.{binary64}
use Rattle.std.specs.Float.Ieee.{add}
use Rattle.complex.specs.declared.Complex.{Complex}
use Rattle.complex.specs.Arithmetic.{complex_of, norm_sqr}
use Rattle.complex.specs.Zeros.{zero_float}
use Rattle.density_entries.specs.Entries.{entry_sum}
use Rattle.density_entries.specs.Blocks.{added}
use Rattle.density_diagonal.specs.declared.Corner.{Corner}

abbrev pub corner_of : Float → Complex → Float → Corner
corner_of p z q = record { first = p; between = z; last = q }

-- one more term to each
unfoldable pub corner_step : Corner → Complex → Complex → Corner
corner_step k a0 a1 = corner_of (add binary64 k.first (norm_sqr a0)) (added k.between a1 a0) (add binary64 k.last (norm_sqr a1))

-- the three entries over the first m submasks
pub record CornerSums (n : ℕ) (s : List Float) (mask m a0 a1 : ℕ) (k : Corner) : Type 0 where
  pub first-is : complex_of k.first zero_float ≡ entry_sum n s mask m a0 a0
  pub between_is : k.between ≡ entry_sum n s mask m a1 a0
  pub last-is : complex_of k.last zero_float ≡ entry_sum n s mask m a1 a1
