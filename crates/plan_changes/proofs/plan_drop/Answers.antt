-- `plan_changes::plan_drop` meets its contract. Assumes nothing.
use mathlib.Core.Path.{sym, ◌∙◌}
use Rattle.plan_lists.specs.Padded.{without}
use Rattle.plans.specs.Plans.{list_of}
use Rattle.plan_changes.specs.Changes.{dropping}
use Rattle.plan_changes.proofs.ChangeLaws.{front-is, change-made, drop-listed}
use Rattle.plan_changes.proofs.plan_drop.Goals as goal

pub returns : goal.returns
returns c =
    let p = c.args.p in
    let m = (sym c.is_made.ensures ∙ c.if-not-is_made.false) in
    let s = sym c.stands_in.ensures ∙ c.if-not-stands_in.false in
    let o = c.leave_out-rest.ensures in
    change-made (dropping _) p m (drop-listed _ p s _) _ (front-is (without c.args.qubit (list_of p)) _ _ o.0 o.1) _ c.cut_plan.ensures
