-- `qr_passes::judge` meets its contract: each way out is one case of `judged`. Assumes nothing.
use Rattle.qr_passes.proofs.GramSchmidtLaws.{judge-full, judge-kept, judge-dropped}
use Rattle.qr_passes.proofs.judge.Goals as goal
use Rattle.qr_passes.proofs.judge.Goals.{else-rank-cap-via-then-rank-cap+else-norms, else-rank-cap-via-else-rank-cap}

pub returns-then-norms-clause-is : goal.returns-then-norms-clause-is
returns-then-norms-clause-is c = judge-kept _ _ _ _ _ _ _ _ _ _ c.if-rank-cap.true c.if-norms.true c.keep.ensures.basis c.keep.ensures.entry

pub returns-clause-is : goal.returns-clause-is
returns-clause-is c =
    elim c.else-rank-cap.branch [ else-rank-cap-via-then-rank-cap+else-norms w ↦ judge-dropped _ _ _ _ _ _ _ _ _ _ w.if-norms.false | else-rank-cap-via-else-rank-cap w ↦ judge-full _ _ _ _ _ _ _ _ _ _ w.if-rank-cap.false ]
