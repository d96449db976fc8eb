-- `numbers::guess` meets its contract: its bits are no NaN's, and it has 53 digits. Assumes nothing.
use native.Mathlib.Omega.{arith}
use Rattle.numbers.proofs.Mending.{bits-no-nan, le-no-nan}
use Rattle.numbers.proofs.guess.Goals as goal

pub float_from_bits-v : goal.float_from_bits-v
float_from_bits-v c = bits-no-nan _ (omega arith)

pub float_from_bits-y0 : goal.float_from_bits-y0
float_from_bits-y0 c = bits-no-nan _ (omega arith)

pub float_to_bits-result : goal.float_to_bits-result
float_to_bits-result c = le-no-nan _ _ c.if-t.true
