-- What a reader may want to know of this crate's definitions and calls. Assumes nothing.
use mathlib.Core.Bool.{true}
use mathlib.Core.Path.{◌≡◌, sym, ◌∙◌}
use mathlib.Core.List.{List}
use lib.Ieee.{Float}
use Rattle.answers.specs.Paper.{Answer}
use Rattle.answers.proofs.Theorems.{paper-one}
use Rattle.cuts.specs.Cut.{CutMatrix}
use Rattle.plans.specs.declared.Plan.{Plan}
use Rattle.plans.specs.Plans.{list_of, made}
use Rattle.plan_matrix.specs.PlannedCut.{PlannedCut}
use Rattle.plan_matrix.proofs.PlannedCutLaws.{is_cut}

-- Only one outcome meets the contract of `planned_cut_matrix`.
pub planned-cut-matrix-one : (s : List Float) (p : Plan) (o : List Float) (r r' : Answer) (end end' : List Float)
    → PlannedCut s p o r end → PlannedCut s p o r' end' → (r ≡ r') × (end ≡ end')
planned-cut-matrix-one s p o r r' end end' a b = (paper-one r r' (a.answer ∙ sym b.answer), a.cells ∙ sym b.cells)

-- Of a plan that some list makes, `planned_cut_matrix` is `cut_matrix` of the plan's list under cap 13.
pub planned-is-cut : (s : List Float) (p : Plan) (o : List Float) (r : Answer) (end : List Float)
    → made p ≡ true → PlannedCut s p o r end → CutMatrix s p.n (list_of p) 13 o r end
planned-is-cut s p o r end h c = is_cut s p o h r end c
