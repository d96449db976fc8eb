-- `entropy_bands::entropy_band` meets its contract: refused before the work, or the work done on the needed part of bands. Assumes nothing.
use mathlib.Core.Path.{◌≡◌, refl, sym, ap, ◌∙◌}
use Prim.Native.Nat.{◌≤◌, ◌*◌}
use native.Mathlib.Omega.{arith}
use lib.ListN.{length}
use lib.Seq.{length-take-le}
use Rattle.answers.specs.Paper.{Reply}
use Rattle.std.proofs.lemmas.Result.{err_from_is_err_and}
use Rattle.answers.proofs.Stopped.{refused, was-done}
use Rattle.cut_sides.specs.declared.Sides.{Sides}
use Rattle.cut_sides.specs.Sides.{cut_refusal, Parted}
use Rattle.cut_sides.proofs.SideLaws.{is-parted}
use Rattle.cut_values.specs.Schmidt.{cut_rows}
use Rattle.cut_values.proofs.SchmidtLaws.{sides-few}
use Rattle.entropy_bands.specs.Bands.{entropy_rest, entropy_tests}
use Rattle.entropy_bands.proofs.BandsLaws.{rest-done, cut-rest, cut-tests, tests-rest}
use Rattle.entropy_bands.proofs.EntropyLaws.{entropy-refused, entropy-worked}
use Rattle.entropy_bands.proofs.entropy_band.Goals as goal

pub returns-in_err-cut_refusal : goal.returns-in_err-cut_refusal
unfolding entropy_tests
returns-in_err-cut_refusal c =
    let p = err_from_is_err_and c.from_residual.result c.from_residual.ensures.1 in
    rw (p.1, p.2) (entropy-refused _ _ _ _ _ _ _ (refused _ _ _ c.in_err-cut_refusal.ensures))

pub sides_of-cut-requires : goal.sides_of-cut-requires
sides_of-cut-requires c =
    let cut-passed : let a = c.args in (cut_refusal a.list.now a.n a.cap).0 ≡ 0 = was-done _ _ c.cut_refusal.ensures c.in_ok-cut_refusal.was in
    let parted : let a = c.args in Parted a.list.now a.n = is-parted _ _ _ (cut-passed) in
    parted

pub check-requires : goal.check-requires
check-requires c =
    let cut-passed : let a = c.args in (cut_refusal a.list.now a.n a.cap).0 ≡ 0 = was-done _ _ c.cut_refusal.ensures c.in_ok-cut_refusal.was in
    let parted : let a = c.args in Parted a.list.now a.n = is-parted _ _ _ (cut-passed) in
    let few : c.sides_of-cut.result.rows ≤ 64 = sides-few _ _ _ (parted) c.sides_of-cut.ensures in
    ((parted).listed.small, few)

pub returns-in_err-check : goal.returns-in_err-check
returns-in_err-check c =
    let cut-passed : let a = c.args in (cut_refusal a.list.now a.n a.cap).0 ≡ 0 = was-done _ _ c.cut_refusal.ensures c.in_ok-cut_refusal.was in
    let rows_are : let a = c.args in c.sides_of-cut.result.rows ≡ cut_rows a.n a.list.now = ap (λ (z : Sides). z.rows) c.sides_of-cut.ensures in
    let p = err_from_is_err_and c.from_residual-in_err-check.result c.from_residual-in_err-check.ensures.1 in
    rw (p.1, p.2) (entropy-refused _ _ _ _ _ _ _ (c.in_err-check.ensures ∙ tests-rest _ _ _ _ _ _ _ rows_are cut-passed))

pub overflow_mul-need : goal.overflow_mul-need
overflow_mul-need c =
    let cut-passed : let a = c.args in (cut_refusal a.list.now a.n a.cap).0 ≡ 0 = was-done _ _ c.cut_refusal.ensures c.in_ok-cut_refusal.was in
    let parted : let a = c.args in Parted a.list.now a.n = is-parted _ _ _ (cut-passed) in
    let few : c.sides_of-cut.result.rows ≤ 64 = sides-few _ _ _ (parted) c.sides_of-cut.ensures in
    omega (arith, few)

pub slice_bounds-work-end : goal.slice_bounds-work-end
slice_bounds-work-end c =
    let rest-passed : let a = c.args in (entropy_rest a.state.now a.n c.sides_of-cut.result.rows (length a.bands.now) (length a.scratch.now)).0 ≡ 0 = was-done _ _ c.check.ensures c.in_ok-check.was in
    let fits : 3 * c.sides_of-cut.result.rows ≤ length c.args.bands.now = (rest-done _ _ _ _ _ (rest-passed)).1 in
    fits

pub slice_bounds-work-end-2 : goal.slice_bounds-work-end-2
slice_bounds-work-end-2 c =
    let rest-passed : let a = c.args in (entropy_rest a.state.now a.n c.sides_of-cut.result.rows (length a.bands.now) (length a.scratch.now)).0 ≡ 0 = was-done _ _ c.check.ensures c.in_ok-check.was in
    let fits : 3 * c.sides_of-cut.result.rows ≤ length c.args.bands.now = (rest-done _ _ _ _ _ (rest-passed)).1 in
    sym (length-take-le _ _ (fits))

pub work-requires : goal.work-requires
work-requires c =
    let cut-passed : let a = c.args in (cut_refusal a.list.now a.n a.cap).0 ≡ 0 = was-done _ _ c.cut_refusal.ensures c.in_ok-cut_refusal.was in
    let parted : let a = c.args in Parted a.list.now a.n = is-parted _ _ _ (cut-passed) in
    let few : c.sides_of-cut.result.rows ≤ 64 = sides-few _ _ _ (parted) c.sides_of-cut.ensures in
    let rows_are : let a = c.args in c.sides_of-cut.result.rows ≡ cut_rows a.n a.list.now = ap (λ (z : Sides). z.rows) c.sides_of-cut.ensures in
    let rest-passed : let a = c.args in (entropy_rest a.state.now a.n c.sides_of-cut.result.rows (length a.bands.now) (length a.scratch.now)).0 ≡ 0 = was-done _ _ c.check.ensures c.in_ok-check.was in
    let fits : 3 * c.sides_of-cut.result.rows ≤ length c.args.bands.now = (rest-done _ _ _ _ _ (rest-passed)).1 in
    record { rows_are = rows_are; few = few; passed = cut-tests _ _ _ _ _ _ (rows_are) (cut-passed) (cut-rest _ _ _ _ _ (rest-passed)); long = length-take-le _ _ (fits) }

pub returns : goal.returns
returns c =
    let cut-passed : let a = c.args in (cut_refusal a.list.now a.n a.cap).0 ≡ 0 = was-done _ _ c.cut_refusal.ensures c.in_ok-cut_refusal.was in
    let rows_are : let a = c.args in c.sides_of-cut.result.rows ≡ cut_rows a.n a.list.now = ap (λ (z : Sides). z.rows) c.sides_of-cut.ensures in
    let rest-passed : let a = c.args in (entropy_rest a.state.now a.n c.sides_of-cut.result.rows (length a.bands.now) (length a.scratch.now)).0 ≡ 0 = was-done _ _ c.check.ensures c.in_ok-check.was in
    entropy-worked _ _ _ _ _ _ _ _ _ _ _ (rows_are) refl (ap (λ (y : Reply). y.0) (sym (tests-rest _ _ _ _ _ _ _ (rows_are) (cut-passed))) ∙ rest-passed) c.work.ensures
