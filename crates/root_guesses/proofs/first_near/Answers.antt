-- `root_guesses::first_near` makes no NaN of bits. Assumes nothing.
use Rattle.std.proofs.Common.{arith}
use Rattle.numbers.proofs.Cases.{no_nan}
use Rattle.numbers.proofs.Mending.{bits-no-nan}
use Rattle.root_guesses.proofs.first_near.Goals as goal

pub float_to_bits-b : goal.float_to_bits-b
float_to_bits-b c = no_nan _ c.if-x.false

pub float_from_bits-result : goal.float_from_bits-result
float_from_bits-result c = bits-no-nan _ (omega arith)
