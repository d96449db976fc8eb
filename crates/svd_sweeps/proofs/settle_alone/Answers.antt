-- `svd_sweeps::settle_alone` meets its contract: the sweeps keep an empty V empty. Assumes nothing.
use Rattle.sweeps.proofs.SweepingLaws.{state-alone}
use Rattle.svd_sweeps.proofs.settle_alone.Goals as goal

pub returns : goal.returns
returns c = state-alone c.settle.auto.v c.settle.ensures
