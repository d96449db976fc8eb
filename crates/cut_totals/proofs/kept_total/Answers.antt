-- `cut_totals::kept_total` meets its contract: the singular values stand at the front of the array.
-- Assumes nothing.
use mathlib.Core.Path.{sym, ◌∙◌}
use lib.Seq.{length-take-le, take_at}
use Rattle.cut_sides.proofs.SideLaws.{is-parted}
use Rattle.cut_values.proofs.SchmidtLaws.{front-in, front_length, same-le}
use Rattle.cut_totals.proofs.TotalsLaws.{cut-sized, cells_fit, cut-total}
use Rattle.cut_totals.proofs.kept_total.Goals as goal

pub sides_of-cut-requires : goal.sides_of-cut-requires
sides_of-cut-requires c = is-parted _ _ 10 c.requires.taken

pub slice_bounds-values-end : goal.slice_bounds-values-end
slice_bounds-values-end c = (cut-sized _ _ _ c.requires _ c.sides_of-cut.ensures).few

pub slice_bounds-singular_values-end : goal.slice_bounds-singular_values-end
slice_bounds-singular_values-end c = sym (length-take-le _ _ (cut-sized _ _ _ c.requires _ c.sides_of-cut.ensures).few)

pub singular_values-requires : goal.singular_values-requires
singular_values-requires c = (cut-sized _ _ _ c.requires _ c.sides_of-cut.ensures, length-take-le _ _ (cut-sized _ _ _ c.requires _ c.sides_of-cut.ensures).few, cells_fit _ _ _ c.requires _ c.sides_of-cut.ensures)

pub slice_bounds-values-end-2 : goal.slice_bounds-values-end-2
slice_bounds-values-end-2 c = front-in _ c.singular_values.new.values _ (c.singular_values.auto.values ∙ length-take-le _ _ (cut-sized _ _ _ c.requires _ c.sides_of-cut.ensures).few)

pub slice_bounds-total_of-end : goal.slice_bounds-total_of-end
slice_bounds-total_of-end c = sym (front_length _ c.singular_values.new.values _ (c.singular_values.auto.values ∙ length-take-le _ _ (cut-sized _ _ _ c.requires _ c.sides_of-cut.ensures).few))

pub total_of-requires : goal.total_of-requires
total_of-requires c = same-le (front_length _ c.singular_values.new.values _ (c.singular_values.auto.values ∙ length-take-le _ _ (cut-sized _ _ _ c.requires _ c.sides_of-cut.ensures).few)) (cut-sized _ _ _ c.requires _ c.sides_of-cut.ensures).few

pub returns : goal.returns
returns c = cut-total _ _ _ c.requires _ c.sides_of-cut.ensures _ _ (take_at _ _ _ (c.singular_values.auto.values ∙ length-take-le _ _ (cut-sized _ _ _ c.requires _ c.sides_of-cut.ensures).few) ∙ c.singular_values.ensures.0) c.total_of.ensures
