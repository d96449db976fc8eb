-- `plan_values::planned_schmidt_values` meets its contract: the work over the kept sides is the list's call. Assumes nothing.
use mathlib.Core.Path.{sym, ◌∙◌}
use Rattle.plans.proofs.PlanLaws.{made-parted}
use Rattle.plan_values.proofs.PlannedValuesLaws.{of-over}
use Rattle.plan_values.proofs.planned_schmidt_values.Goals as goal

pub values_over-requires : goal.values_over-requires
values_over-requires c =
    record { list = _; parted = made-parted _ (sym c.is_made.ensures ∙ c.if-not-is_made.false); are = c.kept_sides-cut.ensures }

pub returns : goal.returns
returns c = of-over _ _ _ _ (sym c.is_made.ensures ∙ c.if-not-is_made.false) _ _ _ _ c.kept_sides-cut.ensures c.values_over.ensures
