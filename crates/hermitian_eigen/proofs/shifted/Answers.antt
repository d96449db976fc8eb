-- `hermitian_eigen::shifted` meets its contract: the test is the definition's. Assumes nothing.
use Rattle.hermitian_eigen.specs.Shifted.{shifted_cell}
use Rattle.hermitian_eigen.proofs.shifted.Goals as goal

pub returns-then-diagonal : goal.returns-then-diagonal
unfolding shifted_cell
returns-then-diagonal c = rw c.if-diagonal.true c.new.ensures

pub returns : goal.returns
unfolding shifted_cell
returns c = rw c.if-diagonal.false
