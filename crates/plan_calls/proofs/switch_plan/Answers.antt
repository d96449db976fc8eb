-- `plan_calls::switch_plan` meets its contract. Assumes nothing.
use Rattle.plan_calls.proofs.StoredLaws.{change-told}
use Rattle.plan_calls.proofs.switch_plan.Goals as goal

pub returns : goal.returns
returns c = change-told _ _ _ c.read_plan.ensures _ _ _ c.plan_switch-made.ensures c.keep.ensures.answer c.keep.ensures.numbers
