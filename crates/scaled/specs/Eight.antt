-- Eight sums of numbers, each times 2 ^ 824. Definitions only.
use Rattle.std.specs.Prelude.{List, ℕ, ◌+◌, Float, get_or}
use Rattle.std.specs.Float.{nan, binary64}
use Rattle.std.specs.Float.Ieee.{add, mul}
use Rattle.complex.specs.Zeros.{zero_float}
use Rattle.scaled.specs.declared.Sums.{Sums}
use Rattle.scaled.specs.Scale.{scale}

abbrev pub no_sums : Sums
no_sums =
    record { sum0 = zero_float; sum1 = zero_float; sum2 = zero_float; sum3 = zero_float; sum4 = zero_float; sum5 = zero_float; sum6 = zero_float; sum7 = zero_float }

-- a sum and x, scaled
abbrev pub with_scaled : Float → Float → Float
with_scaled q x = add binary64 q (mul binary64 x scale)

-- to each sum one of the eight numbers from place i on, scaled
abbrev pub with_eight : Sums → List Float → ℕ → Sums
with_eight q s i =
    record {
      sum0 = with_scaled q.sum0 (get_or s i nan);
      sum1 = with_scaled q.sum1 (get_or s (i + 1) nan);
      sum2 = with_scaled q.sum2 (get_or s (i + 2) nan);
      sum3 = with_scaled q.sum3 (get_or s (i + 3) nan);
      sum4 = with_scaled q.sum4 (get_or s (i + 4) nan);
      sum5 = with_scaled q.sum5 (get_or s (i + 5) nan);
      sum6 = with_scaled q.sum6 (get_or s (i + 6) nan);
      sum7 = with_scaled q.sum7 (get_or s (i + 7) nan);
    }

abbrev pub joined_four : Float → Float → Float → Float → Float
joined_four a b c d = add binary64 (add binary64 a b) (add binary64 c d)

abbrev pub joined : Sums → Float
joined q = add binary64 (joined_four q.sum0 q.sum4 q.sum2 q.sum6) (joined_four q.sum1 q.sum5 q.sum3 q.sum7)
