-- `modulus::power` meets its contract (`Powers.antt`). Assumes nothing.
use mathlib.Core.Path.{refl}
use native.Mathlib.Omega.{arith}
use Rattle.numbers.proofs.Mending.{bits-no-nan}
use Rattle.modulus.proofs.Powers.{power-value}
use Rattle.modulus.proofs.power.Goals as goal

pub float_from_bits-result : goal.float_from_bits-result
float_from_bits-result c = bits-no-nan _ (omega arith)

pub returns : goal.returns
returns c = power-value _ _ c.requires.0 c.requires.1 refl
