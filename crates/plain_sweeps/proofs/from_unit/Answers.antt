-- `plain_sweeps::from_unit` meets its contract: the sweeps start from the unit matrix that was written. Assumes nothing.
use Rattle.plain_sweeps.proofs.TrialLaws.{unit-start}
use Rattle.plain_sweeps.proofs.from_unit.Goals as goal

pub returns : goal.returns
returns c = unit-start _ _ _ _ _ c.unit.ensures c.settle.ensures
