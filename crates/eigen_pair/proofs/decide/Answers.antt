-- `eigen_pair::decide` meets its contract: a law for each way through the code. Assumes nothing.
use Rattle.eigen_pair.proofs.DecideLaws.{decision-leave, decision-turn}
use Rattle.eigen_pair.proofs.decide.Goals as goal

pub returns-then-left_alone : goal.returns-then-left_alone
returns-then-left_alone c = decision-leave _ _ _ _ _ c.modulus_near-modulus.ensures c.left_alone.ensures c.if-left_alone.true

pub returns : goal.returns
returns c = decision-turn _ _ _ _ _ _ c.modulus_near-modulus.ensures c.left_alone.ensures c.if-left_alone.false c.tangent.ensures c.turn_at.ensures
