-- The planned cut of a made plan is its list's call. Assumes nothing.
use mathlib.Core.Bool.{true}
use mathlib.Core.Path.{◌≡◌}
use mathlib.Core.List.{List}
use lib.Ieee.{Float}
use Rattle.answers.specs.Paper.{Answer}
use Rattle.cut_sides.specs.declared.Sides.{Sides}
use Rattle.cut_sides.specs.Sides.{sides_of}
use Rattle.cuts.specs.Cut.{CutMatrix, CutOver}
use Rattle.cuts.proofs.CutLaws.{cut-is-over}
use Rattle.plans.specs.declared.Plan.{Plan}
use Rattle.plans.specs.Plans.{list_of, made}
use Rattle.plans.proofs.PlanLaws.{made-accepted}
use Rattle.plan_matrix.specs.PlannedCut.{PlannedCut}

module _ (s : List Float) (p : Plan) (o : List Float) where
  module _ (h : made p ≡ true) (r : Answer) (end : List Float) where
    -- a made plan's call is its list's
    pub is_cut : PlannedCut s p o r end → CutMatrix s p.n (list_of p) 13 o r end
    is_cut c = record { answer = rw h at c.answer; cells = rw h at c.cells }

    pub of_cut : CutMatrix s p.n (list_of p) 13 o r end → PlannedCut s p o r end
    of_cut c = record { answer = rw h c.answer; cells = rw h c.cells }

    -- and its work over the kept sides
    pub of-over : (z : Sides) → z ≡ sides_of (list_of p) p.n → CutOver s p.n z o r end → PlannedCut s p o r end
    of-over z e c = of_cut (cut-is-over s p.n (list_of p) 13 o r z end (made-accepted p h) e c)
