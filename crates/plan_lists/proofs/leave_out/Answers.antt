use Rattle.plan_lists.proofs.PaddedLaws.{leave-begin, leave-keep, leave-skip}
use Rattle.plan_lists.proofs.leave_out.Goals as goal
use Rattle.plan_lists.proofs.leave_out.Goals.{then-x-q, else-x-q}

pub loop-x-init : goal.loop-x-init
loop-x-init c = leave-begin _ _ c.requires

pub loop-x-preserved : goal.loop-x-preserved
loop-x-preserved c =
    let t = c.loop-x-test.true in
    elim c.if-x-q.branch [
      | then-x-q w ↦ rw (w.numbers-is, w.count-is) (leave-keep _ _ c.requires _ _ _ c.loop-x.invariant t w.if-x-q.true)
      | else-x-q w ↦ rw (w.numbers-is, w.count-is) (leave-skip _ _ c.requires _ _ _ c.loop-x.invariant t w.if-x-q.false)
    ]
