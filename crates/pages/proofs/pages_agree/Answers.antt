-- `pages::pages_agree` meets its contract at each way out: the sizes, the cut, then the comparison. Assumes nothing.
use native.Mathlib.Omega.{arith}
use mathlib.Core.Path.{refl, sym}
use lib.Seq.{length-take-le}
use Rattle.std.proofs.lemmas.Result.{err_from_is_err_and}
use Rattle.answers.proofs.Stopped.{was-done}
use Rattle.pages.proofs.AgreeLaws.{pages-refused, cut-refused, state-fits, held, agreed}
use Rattle.pages.proofs.pages_agree.Goals as goal

pub returns-in_err-recount_size : goal.returns-in_err-recount_size
returns-in_err-recount_size c =
    let z = c.args in
    let p = err_from_is_err_and c.from_residual.result c.from_residual.ensures.1 in
    rw (p.1, p.2) (pages-refused z.state.now z.n z.list.now z.cap _ c.in_err-recount_size.ensures)

pub returns-in_err-cut_matrix : goal.returns-in_err-cut_matrix
returns-in_err-cut_matrix c =
    let z = c.args in
    let p = err_from_is_err_and c.from_residual-in_err-cut_matrix.result c.from_residual-in_err-cut_matrix.ensures.1 in
    rw (p.1, p.2) (cut-refused z.state.now z.n z.list.now z.cap (was-done _ _ c.recount_size.ensures c.in_ok-recount_size.was) _ _ _ c.cut_matrix.ensures refl _ c.in_err-cut_matrix.was)

pub slice_bounds-matrix-end : goal.slice_bounds-matrix-end
slice_bounds-matrix-end c = let z = c.args in omega (arith, state-fits z.state.now z.n z.list.now z.cap (was-done _ _ c.recount_size.ensures c.in_ok-recount_size.was) _ _ _ c.cut_matrix.ensures refl c.in_ok-cut_matrix.was)

pub slice_bounds-same_densities-end : goal.slice_bounds-same_densities-end
slice_bounds-same_densities-end c = let z = c.args in sym (length-take-le _ _ (omega (arith, state-fits z.state.now z.n z.list.now z.cap (was-done _ _ c.recount_size.ensures c.in_ok-recount_size.was) _ _ _ c.cut_matrix.ensures refl c.in_ok-cut_matrix.was)))

pub same_densities-requires : goal.same_densities-requires
same_densities-requires c = let z = c.args in held z.state.now z.n z.list.now z.cap (was-done _ _ c.recount_size.ensures c.in_ok-recount_size.was) _ _ _ c.cut_matrix.ensures refl c.in_ok-cut_matrix.was

pub returns : goal.returns
returns c = let z = c.args in agreed z.state.now z.n z.list.now z.cap (was-done _ _ c.recount_size.ensures c.in_ok-recount_size.was) _ _ _ c.cut_matrix.ensures refl c.in_ok-cut_matrix.was _ c.same_densities.ensures
