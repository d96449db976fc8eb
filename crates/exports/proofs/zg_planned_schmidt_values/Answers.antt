-- `exports::zg_planned_schmidt_values` meets its contract: the plan is the one that the numbers are. Assumes nothing.
use mathlib.Core.Path.{ap, ◌∙◌}
use Rattle.answers.specs.Paper.{given}
use Rattle.cut_values.specs.declared.CutCounted.{CutCounted}
use Rattle.exports.proofs.zg_planned_schmidt_values.Goals as goal

pub returns : goal.returns
returns c =
    let k = c.planned_schmidt_values-k.result in
    let e = c.given-got.ensures ∙ ap (λ (x : CutCounted). given x k) c.no_cut.ensures in
    (k, c.told.ensures, ap (λ (x : CutCounted). (x.count, x.sweeps.begun, x.sweeps.quiet, x.sweeps.turned, x.exact)) e, rw c.read_plan-kept.ensures at c.planned_schmidt_values-k.ensures)
