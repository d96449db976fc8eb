-- `exports::zg_planned_reduced_density` meets its contract: the plan is the one that the numbers are. Assumes nothing.
use Rattle.exports.proofs.zg_planned_reduced_density.Goals as goal

pub returns : goal.returns
returns c =
    (c.planned_reduced_density.result, c.told.ensures, rw c.read_plan-kept.ensures at c.planned_reduced_density.ensures)
