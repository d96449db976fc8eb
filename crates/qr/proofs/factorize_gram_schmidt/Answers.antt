-- `qr::factorize_gram_schmidt` meets its contract: refused by the check, or the work on the needed parts, whose surplus is as it was. Assumes nothing.
use mathlib.Core.Path.{refl, sym, ap, ◌∙◌}
use native.Mathlib.Omega.{arith}
use lib.Seq.{length-take-le}
use Rattle.std.proofs.lemmas.Result.{err_from_is_err_and}
use Rattle.answers.proofs.Stopped.{was-done}
use Rattle.complex.specs.Zeros.{zeros}
use Rattle.qr.proofs.CallLaws.{accepted, q-same, r-same, parts-room, room-some, call-refused, call-passed, call-worked}
use Rattle.qr.proofs.factorize_gram_schmidt.Goals as goal

pub returns-in_err-check : goal.returns-in_err-check
returns-in_err-check c =
    let p = err_from_is_err_and c.from_residual.result c.from_residual.ensures.1 in
    rw (p.1, p.2) (call-refused _ _ _ _ _ _ _ c.in_err-check.ensures)

pub overflow_mul-in_q : goal.overflow_mul-in_q
overflow_mul-in_q c = omega (arith, (accepted _ _ _ _ _ _ c.min-cap.ensures (was-done _ _ c.check.ensures c.in_ok-check.was)).q-few)

pub overflow_mul-in_q-2 : goal.overflow_mul-in_q-2
overflow_mul-in_q-2 c = omega (arith, (accepted _ _ _ _ _ _ c.min-cap.ensures (was-done _ _ c.check.ensures c.in_ok-check.was)).q-few)

pub overflow_mul-in_r : goal.overflow_mul-in_r
overflow_mul-in_r c = omega (arith, (accepted _ _ _ _ _ _ c.min-cap.ensures (was-done _ _ c.check.ensures c.in_ok-check.was)).r-few)

pub overflow_mul-in_r-2 : goal.overflow_mul-in_r-2
overflow_mul-in_r-2 c = omega (arith, (accepted _ _ _ _ _ _ c.min-cap.ensures (was-done _ _ c.check.ensures c.in_ok-check.was)).r-few)

pub overflow_mul-in_scratch : goal.overflow_mul-in_scratch
overflow_mul-in_scratch c = omega (arith, (accepted _ _ _ _ _ _ c.min-cap.ensures (was-done _ _ c.check.ensures c.in_ok-check.was)).rows-few)

pub slice_bounds-factor_parts-end : goal.slice_bounds-factor_parts-end
slice_bounds-factor_parts-end c = (accepted _ _ _ _ _ _ c.min-cap.ensures (was-done _ _ c.check.ensures c.in_ok-check.was)).q-fits

pub slice_bounds-factor_parts-end-2 : goal.slice_bounds-factor_parts-end-2
slice_bounds-factor_parts-end-2 c = sym (length-take-le _ _ (accepted _ _ _ _ _ _ c.min-cap.ensures (was-done _ _ c.check.ensures c.in_ok-check.was)).q-fits)

pub slice_bounds-factor_parts-end-3 : goal.slice_bounds-factor_parts-end-3
slice_bounds-factor_parts-end-3 c = (accepted _ _ _ _ _ _ c.min-cap.ensures (was-done _ _ c.check.ensures c.in_ok-check.was)).r-fits

pub slice_bounds-factor_parts-end-4 : goal.slice_bounds-factor_parts-end-4
slice_bounds-factor_parts-end-4 c = sym (length-take-le _ _ (accepted _ _ _ _ _ _ c.min-cap.ensures (was-done _ _ c.check.ensures c.in_ok-check.was)).r-fits)

pub slice_bounds-factor_parts-end-5 : goal.slice_bounds-factor_parts-end-5
slice_bounds-factor_parts-end-5 c = (accepted _ _ _ _ _ _ c.min-cap.ensures (was-done _ _ c.check.ensures c.in_ok-check.was)).long.s-has

pub slice_bounds-factor_parts-end-6 : goal.slice_bounds-factor_parts-end-6
slice_bounds-factor_parts-end-6 c = sym (length-take-le _ _ (accepted _ _ _ _ _ _ c.min-cap.ensures (was-done _ _ c.check.ensures c.in_ok-check.was)).long.s-has)

pub factor_parts-requires : goal.factor_parts-requires
factor_parts-requires c =
    let x = c.args in
    let e = c.min-cap.ensures in
    let k = (accepted _ _ _ _ _ _ c.min-cap.ensures (was-done _ _ c.check.ensures c.in_ok-check.was)) in
    let o = parts-room _ _ x.a.now x.q.now x.r.now x.scratch.now k.long (q-same _ _ e) (r-same _ _ e) refl in
    record { qr_room = o; in_bounds = room-some k.sized o }

pub returns : goal.returns
returns c =
    let x = c.args in
    let e = c.min-cap.ensures in
    let k = (accepted _ _ _ _ _ _ c.min-cap.ensures (was-done _ _ c.check.ensures c.in_ok-check.was)) in
    let f = c.factor_parts in
    call-worked _ _ _ x.q.now x.r.now x.scratch.now _ (call-passed _ _ _ x.q.now x.r.now x.scratch.now (was-done _ _ c.check.ensures c.in_ok-check.was)) (q-same _ _ e) (r-same _ _ e) refl f.ensures.is (f.auto.q ∙ length-take-le _ _ k.q-fits) (f.auto.r ∙ length-take-le _ _ k.r-fits) (f.ensures.cleared ∙ ap zeros (length-take-le _ _ k.long.s-has))
