-- `svd::work` meets its contract: the factors, scratch zeroed, and the finite test. Assumes nothing.
use Rattle.std.proofs.lemmas.Result.{err_from_is_err_and}
use Rattle.svd.proofs.SvdLaws.{worked, handed-on, handed-none}
use Rattle.svd.proofs.work.Goals as goal

pub returns-in_err-finish : goal.returns-in_err-finish
returns-in_err-finish c =
    let a = c.args in
    let f = c.factor-sweeps in
    let p = err_from_is_err_and c.from_residual.result c.from_residual.ensures.1 in
    rw (p.1, p.2)
    (worked _ _ _ _ a.u.now a.s.now a.vt.now a.scratch.now _ _ _ c.requires
    f.auto.u
    f.auto.s
    f.auto.vt
    f.ensures
    _
    f.auto.scratch
    f.auto.scratch
    c.zero_first.ensures
    c.finish.ensures
    (handed-none _ _ _ c.in_err-finish.was))

pub returns : goal.returns
returns c =
    let a = c.args in
    let f = c.factor-sweeps in
    worked _ _ _ _ a.u.now a.s.now a.vt.now a.scratch.now _ _ _ c.requires
    f.auto.u
    f.auto.s
    f.auto.vt
    f.ensures
    _
    f.auto.scratch
    f.auto.scratch
    c.zero_first.ensures
    c.finish.ensures
    (handed-on _ _ c.in_ok-finish.was)
