use Rattle.chain_load.proofs.CarriedLaws.{across-is}
use Rattle.svd_load.proofs.LoadingLaws.{planes-none, planes-more}
use Rattle.chain_load.proofs.load_column.Goals as goal

pub loop-r-init : goal.loop-r-init
loop-r-init c = planes-none _ _ _ _

pub loop-r-preserved : goal.loop-r-preserved
loop-r-preserved c = planes-more _ _ _ _ _ c.loop-r.invariant (across-is _ _ _ _ _ c.loop-r-test.true c.read_cell-z.ensures) c.write_plane.ensures
