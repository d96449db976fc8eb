-- `hermitian_eigen::rank_rising` meets its contract: both lists that the ranking left are turned round. Assumes nothing.
use native.Mathlib.Omega.{arith}
use Rattle.hermitian_eigen.proofs.StepsLaws.{rising-made}
use Rattle.hermitian_eigen.proofs.rank_rising.Goals as goal

pub returns : goal.returns
returns c = rising-made _ _ _ (omega (arith, c.rank.auto.scratch, c.requires.scratch-is)) c.rank.ensures c.reverse.ensures.after c.reverse-2.ensures.after
