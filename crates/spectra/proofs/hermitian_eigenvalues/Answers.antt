-- `spectra::hermitian_eigenvalues` meets its contract: it is refused, or its end is that of the work. Assumes nothing.
use Rattle.std.proofs.lemmas.Result.{err_from_is_err_and}
use Rattle.answers.proofs.Stopped.{passed, was-done}
use Rattle.spectra.proofs.OutcomeLaws.{square-given, eigenvalues-refused, eigenvalues-worked}
use Rattle.spectra.proofs.hermitian_eigenvalues.Goals as goal

pub returns-in_err-square_refusal : goal.returns-in_err-square_refusal
returns-in_err-square_refusal c =
    let p = err_from_is_err_and c.from_residual.result c.from_residual.ensures.1 in
    rw (p.1, p.2) (eigenvalues-refused _ _ _ _ _ c.in_err-square_refusal.ensures)

pub work_out-requires : goal.work_out-requires
work_out-requires c = square-given _ _ _ _ (was-done _ _ c.square_refusal.ensures c.in_ok-square_refusal.was)

pub returns : goal.returns
returns c = eigenvalues-worked _ _ _ _ _ _ _ (passed _ _ _ c.square_refusal.ensures c.in_ok-square_refusal.was) c.work_out.ensures
