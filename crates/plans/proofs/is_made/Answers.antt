-- `plans::is_made` meets its contract: the plan of its list is made anew and compared. Assumes nothing.
use mathlib.Core.Path.{refl, sym, ap, ◌∙◌}
use Rattle.answers.specs.Paper.{Reply}
use Rattle.answers.proofs.Stopped.{stopped-number}
use Rattle.plans.specs.declared.Plan.{Plan}
use Rattle.plans.specs.Plans.{same_plan}
use Rattle.plans.proofs.PlanLaws.{made-long, made-refused, made-same, plan-given, same-derived}
use Rattle.plans.proofs.is_made.Goals as goal

pub returns-then-p-gt12 : goal.returns-then-p-gt12
returns-then-p-gt12 c = sym (made-long c.args.p c.if-p-gt12.true)

pub returns-in_default : goal.returns-in_default
returns-in_default c =
    sym (made-refused c.args.p (λ z. stopped-number c.in_default.field-0 (ap (λ (x : Reply). x.0) c.in_default.ensures.answer ∙ z)))

pub returns : goal.returns
returns c =
    let p = c.args.p in
    let g = c.in-Ok.ensures in
    let z = sym (ap (λ (x : Reply). x.0) g.answer) in
    c.eq.ensures ∙ same-derived p c.in-Ok.again ∙ ap (λ (x : Plan). same_plan p x) (plan-given _ _ _ _ g z)
    ∙ sym (made-same p _ refl c.if-p-gt12.false z)
