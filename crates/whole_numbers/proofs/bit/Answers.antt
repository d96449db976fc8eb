-- `whole_numbers::bit` meets its contract. Assumes nothing.
use lib.Pow.{pow-lt}
use native.Mathlib.Omega.{arith}
use Rattle.whole_numbers.proofs.bit.Goals as goal

pub returns : goal.returns
returns c = omega (arith, pow-lt c.requires)
