use native.Mathlib.Omega.{arith}
use Rattle.std.proofs.lemmas.Result.{err_from_is_err_and}
use Rattle.chain_walk.proofs.WalkLaws.{walk_start, room-now, room-of-next, walk-next, walk_refused}
use Rattle.chain_walk.proofs.walk.Goals as goal

pub loop-j-init : goal.loop-j-init
loop-j-init c = walk_start _ _ _ _ _ _ _ _ c.requires.u-is

pub next_step-requires : goal.next_step-requires
next_step-requires c =
    let s = c.loop-j.auto in
    room-of-next _ _ _ _ _ _ _ _ _ _ _ _ _ _ _ _ _ (omega arith) c.requires.limit-some c.loop-j.invariant
    (room-now _ _ c.requires s.sites s.bonds s.starts s.marks s.u s.vt s.scratch)

pub returns-in_err-walked : goal.returns-in_err-walked
returns-in_err-walked c =
    let p = err_from_is_err_and c.from_residual.result c.from_residual.ensures.1 in
    rw (p.1, p.2) (walk_refused _ _ _ _ _ _ _ _ _ _ _ _ _ _ _ _ _ (omega arith) c.requires.limit-some c.loop-j.invariant _ c.in_err-walked.ensures)

pub loop-j-preserved : goal.loop-j-preserved
loop-j-preserved c =
    walk-next _ _ _ _ _ _ _ _ _ _ _ _ _ _ _ _ _ (omega arith) c.requires.limit-some c.loop-j.invariant c.in_ok-walked.ensures
    (omega (arith, c.requires.bonds-fit)) (omega (arith, c.requires.starts_fit))
