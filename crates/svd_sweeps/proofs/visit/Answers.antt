-- `svd_sweeps::visit` meets its contract: a pair is passed over where it would be left, and the marks tell of each turn. Assumes nothing.
use native.Mathlib.Omega.{arith}
use Prim.Native.Nat.{◌+◌, ◌*◌, ◌<◌}
use lib.ListN.{length}
use lib.Seq.{lt-length-set}
use Rattle.svd_sweeps.proofs.MarksLaws.{seen-old, seen-left, seen_turned, seen_same, uncounted, done-to, passed_over}
use Rattle.svd_sweeps.proofs.visit.Goals as goal

pub returns-then-unchanged : goal.returns-then-unchanged
returns-then-unchanged c = let k = c.requires.1 in
    let old = c.unchanged.ensures c.if-unchanged.true in
    let left = seen-old _ _ _ _ _ _ _ k.begun k.rising k.within old.0 old.1 c.requires.2 in record { done = passed_over _ _ _ _ _ _ left; seen = seen-left _ _ _ _ _ _ _ c.requires.0.columns k.rising k.within left c.requires.2; waiting = c.requires.3 }

pub offset_bounds-marks-p : goal.offset_bounds-marks-p
offset_bounds-marks-p c = omega (arith, c.requires.1.rising, c.requires.1.within, c.requires.0.columns)

pub bounds-marks-p : goal.bounds-marks-p
bounds-marks-p c = omega (arith, c.requires.1.marks, c.requires.1.rising, c.requires.1.within, c.requires.0.columns)

pub offset_bounds-marks-q : goal.offset_bounds-marks-q
offset_bounds-marks-q c = omega (arith, c.requires.1.rising, c.requires.1.within, c.requires.0.columns)

pub bounds-marks-q : goal.bounds-marks-q
bounds-marks-q c =
    let h : c.args.q < length c.args.marks.now = omega (arith, c.requires.1.marks, c.requires.1.within, c.requires.0.columns) in
    lt-length-set c.args.marks.now c.args.p (c.args.w.s.begun * 4096 + c.args.p * 64 + c.args.q) h

pub returns-then-t-w : goal.returns-then-t-w
returns-then-t-w c =
    let k = c.requires.1 in
    let done = c.pair-t.ensures in
    let seen = seen_turned _ _ _ _ _ _ _ _ _ c.requires.0.columns k.rising k.within k.marks (done-to _ _ _ _ _ _ done.done) c.requires.2 in
    record { done = done.done; seen = seen; waiting = done.waiting }

pub returns-else-t-w : goal.returns-else-t-w
returns-else-t-w c =
    let k = c.requires.1 in
    let done = c.pair-t.ensures in
    let left = uncounted _ _ _ _ _ _ done.done c.if-t-w.false in
    record { done = done.done; seen = seen_same left.1 (seen-left _ _ _ _ _ _ _ c.requires.0.columns k.rising k.within left.0 c.requires.2); waiting = done.waiting }
