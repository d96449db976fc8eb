use Rattle.density_rows.proofs.GatheredLaws.{one-step}
use Rattle.density_rows.proofs.gather_one.Goals as goal

pub loop-t-preserved : goal.loop-t-preserved
loop-t-preserved c = one-step _ _ _ _ _ _ _ _ _ _ c.loop-t.invariant c.loop-t-test.true c.requires.dim_bound.0 c.requires.dim_bound.1 c.read_cell-z.ensures c.write_plane.ensures
