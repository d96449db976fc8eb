-- `eigen_pair::turn_two` meets its contract: both cells are read before either is written, and what is done to cells is done to their planes. Assumes nothing.
use Rattle.eigen_pair.proofs.TurnLaws.{two_made}
use Rattle.eigen_pair.proofs.turn_two.Goals as goal

pub returns : goal.returns
returns c =
    two_made _ _ _ _ _ c.requires.1 c.requires.2 c.requires.0 c.read_cell-x.ensures c.read_cell-y.ensures c.new_p.ensures c.write_cell.ensures c.new_q.ensures c.write_cell-2.ensures
