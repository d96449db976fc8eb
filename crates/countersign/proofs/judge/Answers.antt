-- `countersign::judge` meets its contract: both sets of vectors fill their factors. Assumes nothing.
use Rattle.countersign.proofs.VerdictLaws.{left_is, left-most, right-most, square}
use Rattle.countersign.proofs.judge.Goals as goal

pub first_inner-requires : goal.first_inner-requires
first_inner-requires c = let a = c.requires.accepted in (c.requires.read.u-read, left_is _ _ _ _ _ _ _ a, left-most _ _ _ _ _ _ _ a, square _ _ _ _ _ _ _ a)

pub first_inner-requires-2 : goal.first_inner-requires-2
first_inner-requires-2 c = let a = c.requires.accepted in (c.requires.read.vt-read, a.vt_is, right-most _ _ _ _ _ _ _ a, square _ _ _ _ _ _ _ a)
