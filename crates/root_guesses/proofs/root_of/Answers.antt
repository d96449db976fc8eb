-- `root_guesses::root_of` meets its contract: the guess where it is the root, and otherwise the root. Assumes nothing.
use Rattle.std.proofs.Common.{arith}
use Rattle.numbers.proofs.Cases.{no_nan}
use Rattle.numbers.proofs.Mending.{bits-no-nan}
use Rattle.root_guesses.proofs.root_of.Goals as goal

pub float_to_bits-b : goal.float_to_bits-b
float_to_bits-b c = no_nan _ c.if-x.false

pub float_from_bits-b : goal.float_from_bits-b
float_from_bits-b c = bits-no-nan _ (omega arith)
