-- `entropy_weights::square_top` meets its contract: the digits of a square by its halves. Assumes nothing.
use Rattle.entropy_weights.proofs.WeightLaws.{square-top}
use Rattle.entropy_weights.proofs.square_top.Goals as goal

pub returns : goal.returns
returns c = square-top _
