-- `plan_calls::add_to_plan` meets its contract. Assumes nothing.
use Rattle.plan_calls.proofs.StoredLaws.{change-told}
use Rattle.plan_calls.proofs.add_to_plan.Goals as goal

pub returns : goal.returns
returns c = change-told _ _ _ c.read_plan.ensures _ _ _ c.plan_add-made.ensures c.keep.ensures.answer c.keep.ensures.numbers
