-- `page_sums::summed` meets its contract. The front of each array is a matrix of its own.
-- Assumes nothing.
use mathlib.Core.Path.{refl, sym}
use native.Mathlib.Omega.{arith}
use lib.Seq.{length-take-le}
use Rattle.page_sums.proofs.SumsLaws.{state-fits, density-fits, recountable, sums-is}
use Rattle.page_sums.proofs.summed.Goals as goal

pub slice_bounds-matrix-end : goal.slice_bounds-matrix-end
slice_bounds-matrix-end c = omega (arith, state-fits _ _ _ _ c.requires)

pub slice_bounds-sum_from_cut-end : goal.slice_bounds-sum_from_cut-end
slice_bounds-sum_from_cut-end c = sym (length-take-le _ _ (omega (arith, state-fits _ _ _ _ c.requires, c.cut_matrix.auto.out)))

pub sum_from_cut-requires : goal.sum_from_cut-requires
sum_from_cut-requires c = recountable _ _ _ _ c.requires _ c.cut_matrix.result _ c.cut_matrix.ensures refl _ refl c.cut_matrix.auto.out

pub slice_bounds-again-end : goal.slice_bounds-again-end
slice_bounds-again-end c = omega (arith, density-fits _ _ _ _ c.requires)

pub slice_bounds-same_floats-end : goal.slice_bounds-same_floats-end
slice_bounds-same_floats-end c = sym (length-take-le _ _ (omega (arith, density-fits _ _ _ _ c.requires, c.sum_from_cut.auto.out)))

pub returns : goal.returns
returns c = sums-is _ _ _ _ c.requires _ c.cut_matrix.result _ c.cut_matrix.ensures refl _ _ _ c.sum_from_cut.ensures c.same_floats.ensures
