-- `plan_matrix::planned_cut_matrix` meets its contract: the work over the kept sides is the list's call. Assumes nothing.
use mathlib.Core.Path.{sym, ◌∙◌}
use Rattle.plans.proofs.PlanLaws.{made-parted}
use Rattle.plan_matrix.proofs.PlannedCutLaws.{of-over}
use Rattle.plan_matrix.proofs.planned_cut_matrix.Goals as goal

pub cut_over-requires : goal.cut_over-requires
cut_over-requires c =
    record { list = _; parted = made-parted _ (sym c.is_made.ensures ∙ c.if-not-is_made.false); are = c.kept_sides-cut.ensures }

pub returns : goal.returns
returns c = of-over _ _ _ (sym c.is_made.ensures ∙ c.if-not-is_made.false) _ _ _ c.kept_sides-cut.ensures c.cut_over.ensures
