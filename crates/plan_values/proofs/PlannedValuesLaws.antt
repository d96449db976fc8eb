-- The planned values of a made plan are its list's. Assumes nothing.
use mathlib.Core.Bool.{true}
use mathlib.Core.Path.{◌≡◌, sym, ◌∙◌}
use mathlib.Core.List.{List}
use lib.Ieee.{Float}
use lib.ListN.{length}
use Rattle.std.specs.Prelude.{Result}
use Rattle.answers.specs.declared.Refusal.{Refusal}
use Rattle.cut_sides.specs.declared.Sides.{Sides}
use Rattle.cut_sides.specs.Sides.{sides_of}
use Rattle.cut_values.specs.declared.CutCounted.{CutCounted}
use Rattle.cut_values.specs.Schmidt.{cut_values_answer, Schmidt, SchmidtOver}
use Rattle.cut_values.proofs.SchmidtLaws.{schmidt-is-over}
use Rattle.plans.specs.declared.Plan.{Plan}
use Rattle.plans.specs.Plans.{list_of, made}
use Rattle.plans.proofs.PlanLaws.{made-accepted}
use Rattle.plan_values.specs.PlannedValues.{planned_values_answer, PlannedValues}

module _ (s : List Float) (p : Plan) (out scratch : List Float) where
  module _ (h : made p ≡ true) where
    -- a made plan's answers are its list's
    answers : planned_values_answer s p (length out) (length scratch) ≡ cut_values_answer s p.n (list_of p) 13 (length out) (length scratch)
    answers = rw h

    module _ (r : Result CutCounted Refusal) (out' scratch' : List Float) where
      pub is-values : PlannedValues s p out scratch r out' scratch' → Schmidt s p.n (list_of p) 13 out scratch r out' scratch'
      is-values c = record {
        answer = c.answer ∙ answers;
        count = c.count;
        out-is = c.out-is;
        scratch-is = c.scratch-is;
        sweeps-are = c.sweeps-are;
        exact-is = c.exact-is;
      }

      pub of_values : Schmidt s p.n (list_of p) 13 out scratch r out' scratch' → PlannedValues s p out scratch r out' scratch'
      of_values c = record {
        answer = c.answer ∙ sym answers;
        count = c.count;
        out-is = c.out-is;
        scratch-is = c.scratch-is;
        sweeps-are = c.sweeps-are;
        exact-is = c.exact-is;
      }

      -- and its work over the kept sides
      pub of-over : (z : Sides) → z ≡ sides_of (list_of p) p.n → SchmidtOver s p.n z out scratch r out' scratch' → PlannedValues s p out scratch r out' scratch'
      of-over z e c = of_values (schmidt-is-over s p.n (list_of p) 13 out scratch z e (made-accepted p h) r c)
