-- `plans::cut_plan` meets its contract. Assumes nothing.
use Rattle.answers.proofs.Stopped.{was-done}
use Rattle.cut_sides.proofs.SideLaws.{is-parted}
use Rattle.plans.proofs.cut_plan.Goals as goal

pub plan_of-requires : goal.plan_of-requires
plan_of-requires c = is-parted _ _ c.args.cap (was-done _ _ c.cut_refusal.ensures c.in_ok-cut_refusal.was)
