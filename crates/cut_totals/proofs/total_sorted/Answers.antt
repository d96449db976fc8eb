-- `cut_totals::total_sorted` meets its contract: what the floor keeps stands at the front.
-- Assumes nothing.
use mathlib.Core.Path.{sym}
use lib.Seq.{length-take-le}
use Rattle.cut_totals.proofs.TotalsLaws.{count-le, total-is}
use Rattle.cut_totals.proofs.total_sorted.Goals as goal

pub slice_bounds-sum_of_squares-end : goal.slice_bounds-sum_of_squares-end
slice_bounds-sum_of_squares-end c = sym (length-take-le _ _ (count-le _ _ _ c.floor_of.ensures c.kept_count-count.ensures))

pub returns : goal.returns
returns c = total-is _ _ _ c.floor_of.ensures c.kept_count-count.ensures _ c.sum_of_squares.ensures
