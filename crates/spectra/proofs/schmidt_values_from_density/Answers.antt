-- `spectra::schmidt_values_from_density` meets its contract: it is refused, or its end is that of the work. Assumes nothing.
use mathlib.Core.Path.{refl, sym}
use native.Mathlib.Omega.{arith}
use native.Mathlib.Nat.{mul-le-mul_right}
use lib.Seq.{length-take-le}
use Rattle.std.proofs.lemmas.Result.{err_from_is_err_and}
use Rattle.answers.proofs.Stopped.{passed, was-done}
use Rattle.spectra.proofs.OutcomeLaws.{square-given}
use Rattle.spectra.proofs.DensityLaws.{density-refused, density-worked}
use Rattle.spectra.proofs.schmidt_values_from_density.Goals as goal

pub returns-in_err-square_refusal : goal.returns-in_err-square_refusal
returns-in_err-square_refusal c =
    let p = err_from_is_err_and c.from_residual.result c.from_residual.ensures.1 in
    rw (p.1, p.2) (density-refused _ _ _ _ _ c.in_err-square_refusal.ensures)

pub overflow_mul-need : goal.overflow_mul-need
overflow_mul-need c = omega (arith, mul-le-mul_right c.args.dim (square-given _ _ _ _ (was-done _ _ c.square_refusal.ensures c.in_ok-square_refusal.was)).side, (square-given _ _ _ _ (was-done _ _ c.square_refusal.ensures c.in_ok-square_refusal.was)).side)

pub overflow_mul-need-2 : goal.overflow_mul-need-2
overflow_mul-need-2 c = omega (arith, mul-le-mul_right c.args.dim (square-given _ _ _ _ (was-done _ _ c.square_refusal.ensures c.in_ok-square_refusal.was)).side, (square-given _ _ _ _ (was-done _ _ c.square_refusal.ensures c.in_ok-square_refusal.was)).side)

pub slice_bounds-density_work-end : goal.slice_bounds-density_work-end
slice_bounds-density_work-end c = (square-given _ _ _ _ (was-done _ _ c.square_refusal.ensures c.in_ok-square_refusal.was)).spare

pub slice_bounds-density_work-end-2 : goal.slice_bounds-density_work-end-2
slice_bounds-density_work-end-2 c = sym (length-take-le _ _ (square-given _ _ _ _ (was-done _ _ c.square_refusal.ensures c.in_ok-square_refusal.was)).spare)

pub density_work-requires : goal.density_work-requires
density_work-requires c = let g = square-given _ _ _ _ (was-done _ _ c.square_refusal.ensures c.in_ok-square_refusal.was) in let l = length-take-le _ c.args.scratch.now g.spare in (record { some = g.some; side = g.side; matrix = g.matrix; room = g.room; spare = omega (arith, l) }, l)

pub returns : goal.returns
returns c = density-worked _ _ _ _ _ _ _ _ (passed _ _ _ c.square_refusal.ensures c.in_ok-square_refusal.was) refl (square-given _ _ _ _ (was-done _ _ c.square_refusal.ensures c.in_ok-square_refusal.was)).spare c.density_work.ensures
