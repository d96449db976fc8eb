use native.Mathlib.Omega.{arith}
use Rattle.std.proofs.lemmas.Result.{err_from_is_err_and}
use Rattle.profile_walk.proofs.WalkLaws.{walk_start, room-now, room-of-cut, walk-next, walk_refused}
use Rattle.profile_walk.proofs.walk.Goals as goal

pub loop-j-init : goal.loop-j-init
loop-j-init c = walk_start _ _ _ _ _ _ _

pub put_cut-requires : goal.put_cut-requires
put_cut-requires c =
    let s = c.loop-j.auto in
    room-of-cut _ _ _ _ _ _ _ _ _ (omega arith) c.loop-j.invariant (room-now _ _ _ c.requires s.header s.values s.largest s.ranks s.marks s.scratch)

pub returns-in_err-at : goal.returns-in_err-at
returns-in_err-at c =
    let p = err_from_is_err_and c.from_residual.result c.from_residual.ensures.1 in
    rw (p.1, p.2) (walk_refused _ _ _ _ _ _ _ _ _ (omega arith) c.loop-j.invariant _ c.in_err-at.ensures)

pub loop-j-preserved : goal.loop-j-preserved
loop-j-preserved c = walk-next _ _ _ _ _ _ _ _ _ (omega arith) c.loop-j.invariant _ c.in_ok-at.ensures
