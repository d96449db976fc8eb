-- `hermitian_eigen::hermitian_eigen` meets its contract: refused before the work, or the work done on the needed parts. Assumes nothing.
use mathlib.Core.Path.{◌≡◌, sym}
use Prim.Native.Nat.{ℕ}
use native.Mathlib.Omega.{arith}
use lib.ListN.{length}
use lib.Seq.{length-take-le}
use mathlib.Core.List.{List}
use lib.Ieee.{Float}
use Rattle.std.specs.Prelude.{Ok}
use Rattle.std.proofs.lemmas.Result.{err_from_is_err_and}
use Rattle.answers.specs.Paper.{Answer, paper}
use Rattle.answers.proofs.Stopped.{passed, was-done}
use Rattle.hermitian_eigen.specs.Hermitian.{hermitian_tests}
use Rattle.hermitian_eigen.proofs.HermitianLaws.{HermitianAccepted, accepted, eigen-worked, eigen-refused}
use Rattle.hermitian_eigen.proofs.hermitian_eigen.Goals as goal

accept : (a : List Float) (dim values vectors scratch : ℕ) (r : Answer) {y : Unit} → paper r ≡ hermitian_tests a dim values vectors scratch → r ≡ Ok y
    → HermitianAccepted dim (length a) values vectors scratch
accept a dim values vectors scratch r e d = accepted a dim values vectors scratch (was-done r _ e d)

pub returns-in_err-check : goal.returns-in_err-check
returns-in_err-check c =
    let p = err_from_is_err_and c.from_residual.result c.from_residual.ensures.1 in
    rw (p.1, p.2) (eigen-refused _ _ _ _ _ _ c.in_err-check.ensures)

pub overflow_mul-for_vectors : goal.overflow_mul-for_vectors
overflow_mul-for_vectors c =
    omega (arith, (accept _ _ _ _ _ _ c.check.ensures c.in_ok-check.was).cells)

pub overflow_mul-for_vectors-2 : goal.overflow_mul-for_vectors-2
overflow_mul-for_vectors-2 c =
    omega (arith, (accept _ _ _ _ _ _ c.check.ensures c.in_ok-check.was).cells)

pub overflow_mul-for_scratch : goal.overflow_mul-for_scratch
overflow_mul-for_scratch c =
    omega (arith, (accept _ _ _ _ _ _ c.check.ensures c.in_ok-check.was).cells)

pub overflow_mul-for_scratch-2 : goal.overflow_mul-for_scratch-2
overflow_mul-for_scratch-2 c =
    omega (arith, (accept _ _ _ _ _ _ c.check.ensures c.in_ok-check.was).cells)

pub overflow_mul-for_scratch-3 : goal.overflow_mul-for_scratch-3
overflow_mul-for_scratch-3 c =
    omega (arith, (accept _ _ _ _ _ _ c.check.ensures c.in_ok-check.was).side)

pub overflow_add-for_scratch : goal.overflow_add-for_scratch
overflow_add-for_scratch c =
    omega (arith, (accept _ _ _ _ _ _ c.check.ensures c.in_ok-check.was).cells, (accept _ _ _ _ _ _ c.check.ensures c.in_ok-check.was).side)

pub slice_bounds-work-end : goal.slice_bounds-work-end
slice_bounds-work-end c =
    (accept _ _ _ _ _ _ c.check.ensures c.in_ok-check.was).values-fit

pub slice_bounds-work-end-2 : goal.slice_bounds-work-end-2
slice_bounds-work-end-2 c =
    sym (length-take-le _ _ (accept _ _ _ _ _ _ c.check.ensures c.in_ok-check.was).values-fit)

pub slice_bounds-work-end-3 : goal.slice_bounds-work-end-3
slice_bounds-work-end-3 c =
    (accept _ _ _ _ _ _ c.check.ensures c.in_ok-check.was).vectors-fit

pub slice_bounds-work-end-4 : goal.slice_bounds-work-end-4
slice_bounds-work-end-4 c =
    sym (length-take-le _ _ (accept _ _ _ _ _ _ c.check.ensures c.in_ok-check.was).vectors-fit)

pub slice_bounds-work-end-5 : goal.slice_bounds-work-end-5
slice_bounds-work-end-5 c =
    (accept _ _ _ _ _ _ c.check.ensures c.in_ok-check.was).scratch-fits

pub slice_bounds-work-end-6 : goal.slice_bounds-work-end-6
slice_bounds-work-end-6 c =
    sym (length-take-le _ _ (accept _ _ _ _ _ _ c.check.ensures c.in_ok-check.was).scratch-fits)

pub work-requires : goal.work-requires
work-requires c =
    let a = (accept _ _ _ _ _ _ c.check.ensures c.in_ok-check.was) in record { side = a.side; a-is = a.a-is; values-are = length-take-le _ _ a.values-fit; vectors-are = length-take-le _ _ a.vectors-fit; scratch-is = length-take-le _ _ a.scratch-fits }

pub returns : goal.returns
returns c = eigen-worked _ _ _ _ _ _ (passed _ _ _ c.check.ensures c.in_ok-check.was) c.work.ensures
