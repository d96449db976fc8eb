use Rattle.svd_gram.proofs.GramLaws.{gram_to-none, gram_to-more}
use Rattle.svd_gram.proofs.gram_rows.Goals as goal

pub loop-r-init : goal.loop-r-init
loop-r-init c = cc (gram_to-none _ _ _ _)

pub loop-r-preserved : goal.loop-r-preserved
loop-r-preserved c = rw (c.one_row-g.ensures, c.read_plane-in-loop-r.ensures, c.read_plane.ensures, c.loop-r.invariant, gram_to-more)
