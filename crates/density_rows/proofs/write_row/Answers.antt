use Rattle.density_rows.proofs.RowSumsLaws.{row_step}
use Rattle.density_rows.proofs.write_row.Goals as goal

pub loop-u-preserved : goal.loop-u-preserved
loop-u-preserved c = row_step _ _ _ _ _ _ _ _ _ _ c.requires.square.0 c.requires.square.1 c.requires.sums_len.2 c.loop-u.invariant c.loop-u-test.true c.read_plane-z.ensures c.write_cell.ensures
