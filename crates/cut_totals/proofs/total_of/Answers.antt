-- `cut_totals::total_of` meets its contract: the sorted values stand at the front of the array.
-- Assumes nothing.
use mathlib.Core.Path.{sym, ap, ◌∙◌}
use lib.Seq.{length-take-le, take_at}
use Rattle.cut_values.proofs.SchmidtLaws.{front-in, front_length}
use Rattle.cut_totals.specs.Totals.{total_sorted}
use Rattle.cut_totals.proofs.total_of.Goals as goal

pub slice_bounds-sort_down-end : goal.slice_bounds-sort_down-end
slice_bounds-sort_down-end c = sym (length-take-le _ _ c.requires)

pub sort_down-requires : goal.sort_down-requires
sort_down-requires c = length-take-le _ _ c.requires

pub slice_bounds-sorted-end-2 : goal.slice_bounds-sorted-end-2
slice_bounds-sorted-end-2 c = front-in _ c.sort_down.new.sorted _ (c.sort_down.auto.sorted ∙ length-take-le _ _ c.requires)

pub slice_bounds-total_sorted-end : goal.slice_bounds-total_sorted-end
slice_bounds-total_sorted-end c = sym (front_length _ c.sort_down.new.sorted _ (c.sort_down.auto.sorted ∙ length-take-le _ _ c.requires))

pub returns : goal.returns
returns c = c.total_sorted.ensures ∙ ap total_sorted (take_at _ _ _ (c.sort_down.auto.sorted ∙ length-take-le _ _ c.requires) ∙ c.sort_down.ensures)
