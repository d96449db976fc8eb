-- `plan_changes::plan_add` meets its contract. Assumes nothing.
use mathlib.Core.Path.{refl, sym, ◌∙◌}
use Rattle.plan_changes.specs.Changes.{adding}
use Rattle.plan_changes.proofs.ChangeLaws.{room-added, part-added, list-added, change-made}
use Rattle.plan_changes.proofs.plan_add.Goals as goal

pub slice_bounds-list-end : goal.slice_bounds-list-end
slice_bounds-list-end c = room-added c.args.p (sym c.is_made.ensures ∙ c.if-not-is_made.false) _

pub slice_bounds-cut_plan-end : goal.slice_bounds-cut_plan-end
slice_bounds-cut_plan-end c = part-added c.args.p (sym c.is_made.ensures ∙ c.if-not-is_made.false) _

pub returns : goal.returns
returns c =
    let p = c.args.p in
    let m = (sym c.is_made.ensures ∙ c.if-not-is_made.false) in
    change-made (adding _) p m refl _ (list-added p m _) _ c.cut_plan.ensures
