-- `exports::zg_planned_cut_matrix` meets its contract: the plan is the one that the numbers are. Assumes nothing.
use Rattle.exports.proofs.zg_planned_cut_matrix.Goals as goal

pub returns : goal.returns
returns c =
    (c.planned_cut_matrix.result, c.told.ensures, rw c.read_plan-kept.ensures at c.planned_cut_matrix.ensures)
