-- `plan_lists::leave_out` meets its contract. The loop's invariant: what is kept of the first i numbers stands at the front.
-- Assumes nothing.
use Rattle.plan_lists.proofs.PaddedLaws.{Leaving}
use Rattle.plan_lists.proofs.leave_out.Given as goal

abbrev pub invariant-loop-x : goal.invariant-loop-x
invariant-loop-x l = Leaving l.list l.q l.x-index l.count l.numbers
