-- `cut_marks::put_sweeps` meets its contract: three numbers one after another. Assumes nothing.
use Rattle.cut_marks.proofs.MarkLaws.{in-set, in-set-two, marks-put}
use native.Mathlib.Omega.{arith}
use Rattle.cut_marks.proofs.put_sweeps.Goals as goal

pub bounds-marks-at-2 : goal.bounds-marks-at-2
bounds-marks-at-2 c = in-set c.args.marks.now _ _ _ (omega (arith, c.requires))

pub bounds-marks-at-3 : goal.bounds-marks-at-3
bounds-marks-at-3 c = in-set-two c.args.marks.now _ _ _ _ _ (omega (arith, c.requires))

pub returns : goal.returns
returns c = marks-put _ _ c.args.sweeps c.requires c.one_if.ensures
