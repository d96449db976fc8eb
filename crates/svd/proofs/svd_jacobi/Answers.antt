-- `svd::svd_jacobi` meets its contract: refused before the work, or the work done on the needed parts. Assumes nothing.
use mathlib.Core.Path.{sym}
use native.Mathlib.Omega.{arith}
use lib.Seq.{length-take-le}
use Rattle.std.proofs.lemmas.Result.{err_from_is_err_and}
use Rattle.answers.proofs.Stopped.{passed}
use Rattle.svd.proofs.SvdLaws.{room-for, exact-for, svd-worked, svd-refused}
use Rattle.svd.proofs.svd_jacobi.Goals as goal

pub returns-in_err-check : goal.returns-in_err-check
returns-in_err-check c =
    let p = err_from_is_err_and c.from_residual.result c.from_residual.ensures.1 in
    rw (p.1, p.2) (svd-refused _ _ _ _ _ _ _ _ c.in_err-check.ensures)

pub overflow_mul-for_u : goal.overflow_mul-for_u
overflow_mul-for_u c = let room = room-for _ _ _ _ _ _ _ c.check.ensures c.in_ok-check.was c.smaller_size-k.ensures in omega arith

pub overflow_mul-for_u-2 : goal.overflow_mul-for_u-2
overflow_mul-for_u-2 c = let room = room-for _ _ _ _ _ _ _ c.check.ensures c.in_ok-check.was c.smaller_size-k.ensures in omega arith

pub overflow_mul-for_vt : goal.overflow_mul-for_vt
overflow_mul-for_vt c = let room = room-for _ _ _ _ _ _ _ c.check.ensures c.in_ok-check.was c.smaller_size-k.ensures in omega arith

pub overflow_mul-for_vt-2 : goal.overflow_mul-for_vt-2
overflow_mul-for_vt-2 c = let room = room-for _ _ _ _ _ _ _ c.check.ensures c.in_ok-check.was c.smaller_size-k.ensures in omega arith

pub overflow_mul-for_scratch : goal.overflow_mul-for_scratch
overflow_mul-for_scratch c = let room = room-for _ _ _ _ _ _ _ c.check.ensures c.in_ok-check.was c.smaller_size-k.ensures in omega arith

pub overflow_mul-for_scratch-2 : goal.overflow_mul-for_scratch-2
overflow_mul-for_scratch-2 c = let room = room-for _ _ _ _ _ _ _ c.check.ensures c.in_ok-check.was c.smaller_size-k.ensures in omega arith

pub overflow_mul-for_scratch-3 : goal.overflow_mul-for_scratch-3
overflow_mul-for_scratch-3 c = let room = room-for _ _ _ _ _ _ _ c.check.ensures c.in_ok-check.was c.smaller_size-k.ensures in omega arith

pub overflow_add-for_scratch : goal.overflow_add-for_scratch
overflow_add-for_scratch c = let room = room-for _ _ _ _ _ _ _ c.check.ensures c.in_ok-check.was c.smaller_size-k.ensures in omega arith

pub slice_bounds-work-end : goal.slice_bounds-work-end
slice_bounds-work-end c = let room = room-for _ _ _ _ _ _ _ c.check.ensures c.in_ok-check.was c.smaller_size-k.ensures in room.u-fits

pub slice_bounds-work-end-2 : goal.slice_bounds-work-end-2
slice_bounds-work-end-2 c = let room = room-for _ _ _ _ _ _ _ c.check.ensures c.in_ok-check.was c.smaller_size-k.ensures in sym (length-take-le _ _ room.u-fits)

pub slice_bounds-work-end-3 : goal.slice_bounds-work-end-3
slice_bounds-work-end-3 c = let room = room-for _ _ _ _ _ _ _ c.check.ensures c.in_ok-check.was c.smaller_size-k.ensures in room.s-fits

pub slice_bounds-work-end-4 : goal.slice_bounds-work-end-4
slice_bounds-work-end-4 c = let room = room-for _ _ _ _ _ _ _ c.check.ensures c.in_ok-check.was c.smaller_size-k.ensures in sym (length-take-le _ _ room.s-fits)

pub slice_bounds-work-end-5 : goal.slice_bounds-work-end-5
slice_bounds-work-end-5 c = let room = room-for _ _ _ _ _ _ _ c.check.ensures c.in_ok-check.was c.smaller_size-k.ensures in room.vt-fits

pub slice_bounds-work-end-6 : goal.slice_bounds-work-end-6
slice_bounds-work-end-6 c = let room = room-for _ _ _ _ _ _ _ c.check.ensures c.in_ok-check.was c.smaller_size-k.ensures in sym (length-take-le _ _ room.vt-fits)

pub slice_bounds-work-end-7 : goal.slice_bounds-work-end-7
slice_bounds-work-end-7 c = let room = room-for _ _ _ _ _ _ _ c.check.ensures c.in_ok-check.was c.smaller_size-k.ensures in room.scratch-fits

pub slice_bounds-work-end-8 : goal.slice_bounds-work-end-8
slice_bounds-work-end-8 c = let room = room-for _ _ _ _ _ _ _ c.check.ensures c.in_ok-check.was c.smaller_size-k.ensures in sym (length-take-le _ _ room.scratch-fits)

pub work-requires : goal.work-requires
work-requires c =
    let room = room-for _ _ _ _ _ _ _ c.check.ensures c.in_ok-check.was c.smaller_size-k.ensures in
    exact-for _ _ _ _ _ _ _ c.check.ensures c.in_ok-check.was c.smaller_size-k.ensures
    (length-take-le _ _ room.u-fits)
    (length-take-le _ _ room.s-fits)
    (length-take-le _ _ room.vt-fits)
    (length-take-le _ _ room.scratch-fits)

pub returns : goal.returns
returns c = svd-worked _ _ _ _ _ _ _ c.work.result c.smaller_size-k.ensures (passed _ _ _ c.check.ensures c.in_ok-check.was) c.work.ensures
