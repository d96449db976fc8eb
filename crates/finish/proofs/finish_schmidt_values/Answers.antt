-- `finish::finish_schmidt_values` meets its contract: it is refused, or its end is that of the finish. Assumes nothing.
use Rattle.std.proofs.lemmas.Result.{err_from_is_err_and}
use Rattle.answers.proofs.Stopped.{passed, was-done}
use Rattle.finish.proofs.OutcomeLaws.{outcome-refused, outcome-finished, refusal-room}
use Rattle.finish.proofs.finish_schmidt_values.Goals as goal

pub returns-in_err-finish_refusal : goal.returns-in_err-finish_refusal
returns-in_err-finish_refusal c =
    let p = err_from_is_err_and c.from_residual.result c.from_residual.ensures.1 in
    rw (p.1, p.2) (outcome-refused _ _ _ c.in_err-finish_refusal.ensures)

pub finish_values-requires : goal.finish_values-requires
finish_values-requires c = refusal-room _ _ (was-done _ _ c.finish_refusal.ensures c.in_ok-finish_refusal.was)

pub returns : goal.returns
returns c = outcome-finished _ _ _ _ (passed _ _ _ c.finish_refusal.ensures c.in_ok-finish_refusal.was) c.finish_values.ensures
