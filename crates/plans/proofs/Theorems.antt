-- What a reader may want to know of plans. Assumes nothing.
use mathlib.Core.Path.{◌≡◌, sym, ap, ◌∙◌}
use mathlib.Core.Bool.{true}
use mathlib.Core.List.{List}
use Prim.Native.Nat.{ℕ}
use Rattle.std.specs.Prelude.{Result}
use Rattle.answers.specs.declared.Refusal.{Refusal}
use Rattle.answers.specs.Paper.{Reply, paper, given}
use Rattle.answers.proofs.Theorems.{result-one}
use Rattle.cut_sides.specs.Sides.{cut_refusal}
use Rattle.plans.specs.declared.Plan.{Plan}
use Rattle.plans.specs.Plans.{plan_of, no_plan, CutPlan, list_of, made}
use Rattle.plans.proofs.PlanLaws.{made-accepted, made-is, made-plan, cap-wider, plan-given}

-- Only one outcome meets the contract of `cut_plan`.
pub cut-plan-one : (l : List ℕ) (n cap : ℕ) (r r' : Result Plan Refusal) → CutPlan l n cap r → CutPlan l n cap r' → r ≡ r'
cut-plan-one l n cap r r' a b =
    result-one r r' (a.answer ∙ sym b.answer) (λ x y p q. sym (ap (given no_plan) p) ∙ a.plan ∙ sym b.plan ∙ ap (given no_plan) q)

-- A made plan is the plan of the list that it keeps, number by number, and a cut accepts that list under cap 13.
pub made-plan-of : (p : Plan) → made p ≡ true → (p ≡ plan_of (list_of p) p.n) × ((cut_refusal (list_of p) p.n 13).0 ≡ 0)
made-plan-of p m = (made-is p m, made-accepted p m)

-- What `cut_plan` gives is made, under whatever cap it was asked.
pub cut-plan-made : (l : List ℕ) (n cap : ℕ) (r : Result Plan Refusal) → CutPlan l n cap r → (paper r).0 ≡ 0 → made (given no_plan r) ≡ true
cut-plan-made l n cap r c z =
    let e : (cut_refusal l n cap).0 ≡ 0 = sym (ap (λ (x : Reply). x.0) c.answer) ∙ z in
    ap made (plan-given l n cap r c e) ∙ made-plan l n (cap-wider l n cap e)
