-- `chain_cases::lend` is safe: the lent parts lie in their arrays. Assumes nothing.
use mathlib.Core.Path.{sym}
use native.Mathlib.Omega.{arith}
use lib.Seq.{length-take-le}
use Rattle.chain_cases.proofs.lend.Goals as goal

pub slice_bounds-call-end : goal.slice_bounds-call-end
slice_bounds-call-end g c = sym (length-take-le _ _ (omega arith))

pub slice_bounds-call-end-2 : goal.slice_bounds-call-end-2
slice_bounds-call-end-2 g c = sym (length-take-le _ _ (omega arith))

pub slice_bounds-call-end-3 : goal.slice_bounds-call-end-3
slice_bounds-call-end-3 g c = sym (length-take-le _ _ (omega arith))

pub slice_bounds-call-end-4 : goal.slice_bounds-call-end-4
slice_bounds-call-end-4 g c = sym (length-take-le _ _ (omega arith))

pub slice_bounds-call-end-5 : goal.slice_bounds-call-end-5
slice_bounds-call-end-5 g c = sym (length-take-le _ _ (omega arith))

pub slice_bounds-call-end-6 : goal.slice_bounds-call-end-6
slice_bounds-call-end-6 g c = sym (length-take-le _ _ (omega arith))

pub slice_bounds-call-end-7 : goal.slice_bounds-call-end-7
slice_bounds-call-end-7 g c = sym (length-take-le _ _ (omega arith))

pub slice_bounds-call-end-8 : goal.slice_bounds-call-end-8
slice_bounds-call-end-8 g c = sym (length-take-le _ _ (omega arith))
