-- `density_diagonal::fill_corner` meets its contract: the three entries are the sums, and the writes are the definition. Assumes nothing.
use mathlib.Core.Path.{◌∙◌}
use Rattle.density_entries.specs.Filled.{table_entry}
use Rattle.density_diagonal.proofs.CornerRowsLaws.{corner-written, corner-filled}
use Rattle.density_diagonal.proofs.fill_corner.Goals as goal

pub returns : goal.returns
returns c =
    let sums = c.corner_sums-corner.ensures in
    let entry = table_entry c.args.n c.args.state.now c.args.mask c.args.groups c.args.offsets.now in
    corner-filled entry _ _ _ _ _ _ _ _
    (corner-written entry _ _ _ _ _ _ _ _ c.write_cell.ensures c.write_pair.ensures
    (c.new.ensures ∙ sums.first-is) sums.between_is (c.new-last.ensures ∙ sums.last-is))
    c.write_cell-2.ensures c.new-both.ensures sums.first-is sums.last-is
