-- `cut_values::dense_schmidt_values` meets its contract: 1 to 5 refuse, or the work over the list's sides is the call. Assumes nothing.
use mathlib.Core.Path.{◌≡◌}
use Rattle.std.proofs.lemmas.Result.{err_from_is_err_and}
use Rattle.answers.proofs.Stopped.{refused, was-done}
use Rattle.cut_sides.specs.Sides.{cut_refusal}
use Rattle.cut_sides.proofs.SideLaws.{is-parted}
use Rattle.cut_values.specs.Schmidt.{cut_values_tests}
use Rattle.cut_values.proofs.SchmidtLaws.{schmidt-refused, schmidt-is-over}
use Rattle.cut_values.proofs.dense_schmidt_values.Goals as goal

pub returns-in_err-cut_refusal : goal.returns-in_err-cut_refusal
unfolding cut_values_tests
returns-in_err-cut_refusal c =
    let p = err_from_is_err_and c.from_residual.result c.from_residual.ensures.1 in
    rw (p.1, p.2) (schmidt-refused _ _ _ _ _ _ _ (refused _ _ _ c.in_err-cut_refusal.ensures))

pub sides_of-cut-requires : goal.sides_of-cut-requires
sides_of-cut-requires c =
    let cut-passed : let a = c.args in (cut_refusal a.list.now a.n a.cap).0 ≡ 0 = was-done _ _ c.cut_refusal.ensures c.in_ok-cut_refusal.was in
    is-parted _ _ _ (cut-passed)

pub values_over-requires : goal.values_over-requires
values_over-requires c =
    let cut-passed : let a = c.args in (cut_refusal a.list.now a.n a.cap).0 ≡ 0 = was-done _ _ c.cut_refusal.ensures c.in_ok-cut_refusal.was in
    record { list = _; parted = is-parted _ _ _ (cut-passed); are = c.sides_of-cut.ensures }

pub returns : goal.returns
returns c =
    let cut-passed : let a = c.args in (cut_refusal a.list.now a.n a.cap).0 ≡ 0 = was-done _ _ c.cut_refusal.ensures c.in_ok-cut_refusal.was in
    schmidt-is-over _ _ _ _ _ _ _ c.sides_of-cut.ensures (cut-passed) _ c.values_over.ensures
