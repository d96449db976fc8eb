-- `profile_cut::put_marks` meets its contract: the three marks of the sweeps, and a fourth. Assumes nothing.
use Rattle.profile_cut.proofs.CutLaws.{marks-room, marks-put}
use Rattle.profile_cut.proofs.put_marks.Goals as goal

pub bounds-marks-at : goal.bounds-marks-at
bounds-marks-at c = marks-room c.args.marks.now c.args.j c.args.res.sweeps c.requires c.put_sweeps.ensures

pub returns : goal.returns
returns c = marks-put c.args.marks.now c.args.j c.args.res c.requires c.put_sweeps.ensures c.one_if.ensures
