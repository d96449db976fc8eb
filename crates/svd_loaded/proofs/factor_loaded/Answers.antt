-- `svd_loaded::factor_loaded` meets its contract: the factors, and the finite test. Assumes nothing.
use Rattle.std.proofs.lemmas.Result.{err_from_is_err_and}
use Rattle.svd.proofs.SvdLaws.{handed-on, handed-none}
use Rattle.svd_loaded.proofs.LoadedLaws.{loaded}
use Rattle.svd_loaded.proofs.factor_loaded.Goals as goal

pub thin-sweeps-requires : goal.thin-sweeps-requires
thin-sweeps-requires c = c.requires

pub returns-in_err-finish : goal.returns-in_err-finish
returns-in_err-finish c =
    let t = c.thin-sweeps in
    let p = err_from_is_err_and c.from_residual.result c.from_residual.ensures.1 in
    rw (p.1, p.2) (loaded _ _ c.args.u.now c.args.s.now c.args.vt.now _ _ c.requires t.auto.u t.auto.s t.auto.vt t.ensures c.finish.ensures (handed-none _ _ _ c.in_err-finish.was))

pub returns : goal.returns
returns c =
    let t = c.thin-sweeps in
    loaded _ _ c.args.u.now c.args.s.now c.args.vt.now _ _ c.requires t.auto.u t.auto.s t.auto.vt t.ensures c.finish.ensures (handed-on _ _ c.in_ok-finish.was)
