-- `plan_changes::plan_switch` meets its contract. Assumes nothing.
use mathlib.Core.Path.{refl, sym, ◌∙◌}
use native.Mathlib.Omega.{arith}
use Rattle.qubits.specs.Spread.{other_qubits}
use Rattle.plans.specs.Plans.{list_of}
use Rattle.plans.proofs.PlanLaws.{made-count, made-parted}
use Rattle.plan_changes.specs.Changes.{switching}
use Rattle.plan_changes.proofs.ChangeLaws.{front-is, front-part, front-room, few-others, few-switched, change-made}
use Rattle.plan_changes.proofs.plan_switch.Goals as goal

pub pad_others-others-requires : goal.pad_others-others-requires
pad_others-others-requires c = made-parted c.args.p (sym c.is_made.ensures ∙ c.if-not-is_made.false)

pub slice_bounds-others-count : goal.slice_bounds-others-count
slice_bounds-others-count c = omega (arith, made-count c.args.p (sym c.is_made.ensures ∙ c.if-not-is_made.false), (made-parted c.args.p (sym c.is_made.ensures ∙ c.if-not-is_made.false)).part)

pub slice_bounds-others-end : goal.slice_bounds-others-end
slice_bounds-others-end c =
    let p = c.args.p in
    let m = (sym c.is_made.ensures ∙ c.if-not-is_made.false) in
    front-room (other_qubits p.n (list_of p)) _ _ c.pad_others-others.ensures (few-others p m) (few-switched p m)

pub slice_bounds-cut_plan-length : goal.slice_bounds-cut_plan-length
slice_bounds-cut_plan-length c =
    let p = c.args.p in
    front-part (other_qubits p.n (list_of p)) _ _ c.pad_others-others.ensures (few-others p (sym c.is_made.ensures ∙ c.if-not-is_made.false))

pub returns : goal.returns
returns c =
    let p = c.args.p in
    let m = (sym c.is_made.ensures ∙ c.if-not-is_made.false) in
    change-made switching p m refl _ (front-is (other_qubits p.n (list_of p)) _ _ c.pad_others-others.ensures (few-others p m)) _ c.cut_plan.ensures
