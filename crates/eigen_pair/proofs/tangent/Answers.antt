-- `eigen_pair::tangent` meets its contract: the calls are the definition's steps. Assumes nothing.
use Rattle.eigen_pair.proofs.DecideLaws.{tangent-made}
use Rattle.eigen_pair.proofs.tangent.Goals as goal

pub returns : goal.returns
returns c = tangent-made _ _ _ _ c.root_near-root.ensures c.sign.ensures c.magnitude.ensures
