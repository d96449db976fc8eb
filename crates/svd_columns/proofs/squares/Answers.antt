use Rattle.complex.proofs.SquaresLaws.{squares-none, squares-more}
use Rattle.svd_columns.proofs.squares.Goals as goal

pub loop-r-init : goal.loop-r-init
loop-r-init c = squares-none _

pub loop-r-preserved : goal.loop-r-preserved
loop-r-preserved c = squares-more _ _ c.loop-r.invariant c.read_plane.ensures c.norm_sqr-sum.ensures
