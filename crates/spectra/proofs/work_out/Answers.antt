-- `spectra::work_out` meets its contract: the eigenvalues stand at the front of the output, and all are finite or not. Assumes nothing.
use mathlib.Core.Path.{sym}
use native.Mathlib.Omega.{arith}
use lib.Seq.{length-take-le}
use native.Mathlib.Nat.{mul-le-mul_right}
use Rattle.spectra.proofs.OutcomeLaws.{zeroed-part, worked-done, worked-infinite}
use Rattle.spectra.proofs.work_out.Goals as goal

pub overflow_mul-need : goal.overflow_mul-need
overflow_mul-need c = omega (arith, mul-le-mul_right c.args.n c.requires.side, c.requires.side)

pub overflow_mul-need-2 : goal.overflow_mul-need-2
overflow_mul-need-2 c = omega (arith, mul-le-mul_right c.args.n c.requires.side, c.requires.side)

pub slice_bounds-spectrum-end : goal.slice_bounds-spectrum-end
slice_bounds-spectrum-end c = omega (arith, c.requires.spare)

pub slice_bounds-spectrum-end-2 : goal.slice_bounds-spectrum-end-2
slice_bounds-spectrum-end-2 c = sym (length-take-le _ _ c.requires.spare)

pub spectrum-sweeps-requires : goal.spectrum-sweeps-requires
spectrum-sweeps-requires c = let g = c.requires in let l = length-take-le _ c.args.scratch.now g.spare in (record { some = g.some; side = g.side; matrix = g.matrix; room = g.room; spare = omega (arith, l) }, l)

pub slice_bounds-all_finite-end : goal.slice_bounds-all_finite-end
slice_bounds-all_finite-end c = omega (arith, c.requires.room, c.spectrum-sweeps.auto.out)

pub slice_bounds-all_finite-end-2 : goal.slice_bounds-all_finite-end-2
slice_bounds-all_finite-end-2 c = sym (length-take-le _ _ (omega (arith, c.requires.room, c.spectrum-sweeps.auto.out)))

pub returns-then-all_finite : goal.returns-then-all_finite
returns-then-all_finite c =
    let s = c.spectrum-sweeps.ensures in
    worked-done _ _ _ _ _ _ _ s.0 (zeroed-part _ _ _ c.requires.spare s.1) s.2 _ c.all_finite.ensures c.if-all_finite.true

pub zero_first-requires : goal.zero_first-requires
zero_first-requires c = omega (arith, c.requires.room, c.spectrum-sweeps.auto.out)

pub returns : goal.returns
returns c =
    let s = c.spectrum-sweeps.ensures in
    worked-infinite _ _ _ _ _ _ _ s.0 (zeroed-part _ _ _ c.requires.spare s.1) s.2 _ c.all_finite.ensures c.if-all_finite.false _ c.zero_first.ensures
