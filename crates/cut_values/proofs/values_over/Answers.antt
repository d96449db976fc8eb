-- `cut_values::values_over` meets its contract: refused before the work, or the work done on the needed part of scratch. Assumes nothing.
use mathlib.Core.Path.{◌≡◌, sym, ap, ◌∙◌}
use Prim.Native.Nat.{ℕ, ◌+◌, ◌*◌, ◌≤◌}
use native.Mathlib.Omega.{arith}
use lib.ListN.{length}
use lib.Seq.{length-take-le}
use Rattle.std.proofs.lemmas.Result.{err_from_is_err_and}
use Rattle.answers.proofs.Stopped.{was-done}
use Rattle.qubits.proofs.NamedLaws.{pow_small}
use Rattle.cut_sides.specs.declared.Sides.{Sides}
use Rattle.cut_sides.specs.Sides.{Sided}
use Rattle.cut_values.specs.Schmidt.{cut_values_rest}
use Rattle.cut_values.proofs.SchmidtLaws.{rest-done, sides-few, sized, over-refused, over-worked}
use Rattle.cut_values.proofs.values_over.Goals as goal

few : (n : ℕ) (z : Sides) → Sided n z → z.rows ≤ 64
few n z p = sides-few n p.list z p.parted p.are

pub check-requires : goal.check-requires
check-requires c = let p = c.requires in (p.parted.listed.small, few _ _ p)

pub returns-in_err-check : goal.returns-in_err-check
returns-in_err-check c =
    let p = err_from_is_err_and c.from_residual.result c.from_residual.ensures.1 in
    rw (p.1, p.2) (over-refused _ _ _ _ _ _ c.in_err-check.ensures)

pub bit-requires : goal.bit-requires
bit-requires c = omega (arith, c.requires.parted.listed.small)

pub overflow_mul-need : goal.overflow_mul-need
overflow_mul-need c = omega (arith, c.bit.ensures, pow_small _ c.requires.parted.listed.small)

pub overflow_mul-need-2 : goal.overflow_mul-need-2
overflow_mul-need-2 c = omega (arith, few _ _ c.requires)

pub overflow_add-need : goal.overflow_add-need
overflow_add-need c = omega (arith, few _ _ c.requires, c.bit.ensures, pow_small _ c.requires.parted.listed.small)

pub slice_bounds-work-end : goal.slice_bounds-work-end
slice_bounds-work-end c =
    let rest-passed : let a = c.args in (cut_values_rest a.state.now a.n a.cut.rows (length a.out.now) (length a.scratch.now)).0 ≡ 0 = was-done _ _ c.check.ensures c.in_ok-check.was in
    let fits : let a = c.args in 8 * c.bit.result + 2 * a.cut.rows ≤ length a.scratch.now = omega (arith, c.bit.ensures, (rest-done _ _ _ _ _ (rest-passed)).2) in
    fits

pub slice_bounds-work-end-2 : goal.slice_bounds-work-end-2
slice_bounds-work-end-2 c =
    let rest-passed : let a = c.args in (cut_values_rest a.state.now a.n a.cut.rows (length a.out.now) (length a.scratch.now)).0 ≡ 0 = was-done _ _ c.check.ensures c.in_ok-check.was in
    let fits : let a = c.args in 8 * c.bit.result + 2 * a.cut.rows ≤ length a.scratch.now = omega (arith, c.bit.ensures, (rest-done _ _ _ _ _ (rest-passed)).2) in
    sym (length-take-le _ _ (fits))

pub work-requires : goal.work-requires
work-requires c =
    let rest-passed : let a = c.args in (cut_values_rest a.state.now a.n a.cut.rows (length a.out.now) (length a.scratch.now)).0 ≡ 0 = was-done _ _ c.check.ensures c.in_ok-check.was in
    let fits : let a = c.args in 8 * c.bit.result + 2 * a.cut.rows ≤ length a.scratch.now = omega (arith, c.bit.ensures, (rest-done _ _ _ _ _ (rest-passed)).2) in
    let p = c.requires in
    let d = rest-done _ _ _ _ _ (rest-passed) in
    (sized _ _ _ _ p.parted p.are d.0, d.1, length-take-le _ _ (fits) ∙ omega (arith, c.bit.ensures))

pub returns : goal.returns
returns c =
    let rest-passed : let a = c.args in (cut_values_rest a.state.now a.n a.cut.rows (length a.out.now) (length a.scratch.now)).0 ≡ 0 = was-done _ _ c.check.ensures c.in_ok-check.was in
    over-worked _ _ _ _ _ c.work.result _ (ap (λ (x : ℕ). 8 * x + 2 * c.args.cut.rows) c.bit.ensures) (rest-passed) c.work.ensures
