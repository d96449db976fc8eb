-- What a reader may want to know of this crate's definitions and calls. Assumes nothing.
use mathlib.Core.Bool.{true}
use mathlib.Core.Path.{◌≡◌, sym, ◌∙◌}
use mathlib.Core.List.{List}
use lib.Ieee.{Float}
use Rattle.std.specs.Prelude.{Result}
use Rattle.answers.specs.declared.Refusal.{Refusal}
use Rattle.answers.specs.Paper.{paper}
use Rattle.cut_values.specs.declared.CutCounted.{CutCounted}
use Rattle.cut_values.specs.Schmidt.{Schmidt}
use Rattle.cut_values.proofs.SchmidtLaws.{cut-counted-one}
use Rattle.plans.specs.declared.Plan.{Plan}
use Rattle.plans.specs.Plans.{list_of, made}
use Rattle.plan_values.specs.PlannedValues.{PlannedValues}
use Rattle.plan_values.proofs.PlannedValuesLaws.{is-values}

-- Only one outcome meets the contract of `planned_schmidt_values`: its answer, its count, its sweeps, its mark, and every cell of out and
-- scratch.
pub planned-schmidt-values-one : (s : List Float) (p : Plan) (out scratch : List Float) (r q : Result CutCounted Refusal) (out' scratch' out'' scratch'' : List Float)
    → PlannedValues s p out scratch r out' scratch' → PlannedValues s p out scratch q out'' scratch''
    → (r ≡ q) × (out' ≡ out'') × (scratch' ≡ scratch'')
planned-schmidt-values-one s p out scratch r q out' scratch' out'' scratch'' x y =
    let e : paper r ≡ paper q = x.answer ∙ sym y.answer in (
      cut-counted-one r q e (x.count ∙ rw e (sym y.count)) (x.sweeps-are ∙ rw e (sym y.sweeps-are)) (x.exact-is ∙ rw e (sym y.exact-is)),
      x.out-is ∙ rw e (sym y.out-is),
      x.scratch-is ∙ rw e (sym y.scratch-is),
    )

-- Of a plan that some list makes, `planned_schmidt_values` is `dense_schmidt_values` of the plan's list under cap 13.
pub planned-is-values : (s : List Float) (p : Plan) (out scratch : List Float) (r : Result CutCounted Refusal) (out' scratch' : List Float)
    → made p ≡ true → PlannedValues s p out scratch r out' scratch' → Schmidt s p.n (list_of p) 13 out scratch r out' scratch'
planned-is-values s p out scratch r out' scratch' h c = is-values s p out scratch h r out' scratch' c
