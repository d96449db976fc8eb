-- The sums of the entropy's band of finished values. Definitions only.
use Rattle.std.specs.Prelude.{List, ◌*◌, Float}
use Rattle.entropy_sums.specs.Sums.{weights_left, whole_weight, low_sum, high_sum}
use Rattle.entropy_totals.specs.declared.Totals.{Totals}

-- the sums of w*lo and of w*hi over the weights left, and 4096 times their sum
unfoldable pub totals_of : List Float → Totals
totals_of values = record {
  low = low_sum (whole_weight values) (weights_left values);
  high = high_sum (whole_weight values) (weights_left values);
  whole = 4096 * whole_weight values;
}
