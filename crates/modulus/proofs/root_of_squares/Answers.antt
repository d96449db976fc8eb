-- `modulus::root_of_squares` meets its contract. Assumes nothing.
use Rattle.modulus.specs.Modulus.{root_of_squares}
use Rattle.modulus.proofs.root_of_squares.Goals as goal

pub returns : goal.returns
unfolding root_of_squares
returns c = c.root_near.ensures
