-- `modulus::power_under` meets its contract (`Powers.antt`). Assumes nothing.
use native.Mathlib.Omega.{arith}
use Rattle.numbers.proofs.Mending.{bits-no-nan}
use Rattle.modulus.proofs.Powers.{under-value, least-value}
use Rattle.modulus.proofs.power_under.Goals as goal

pub float_from_bits-result : goal.float_from_bits-result
float_from_bits-result c = bits-no-nan _ (omega arith)

pub returns-then-f-eq2046 : goal.returns-then-f-eq2046
returns-then-f-eq2046 c = least-value _ c.if-f-eq2046.true

pub float_from_bits-result-2 : goal.float_from_bits-result-2
float_from_bits-result-2 c = bits-no-nan _ (omega arith)

pub returns : goal.returns
returns c = under-value _ c.requires.0 c.requires.1 c.if-f-eq2046.false
