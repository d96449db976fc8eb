-- `numbers::not_a_number` meets its contract: a quotient of noughts is `nan`. Assumes nothing.
use mathlib.Core.Path.{refl}
use lib.Ieee.{div, of_bits}
use Rattle.numbers.proofs.not_a_number.Goals as goal

pub returns : goal.returns
unfolding div of_bits
returns c = refl
