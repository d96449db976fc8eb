use Rattle.slab_sites.proofs.SiteLaws.{shift_none, shift-more}
use Rattle.slab_sites.proofs.close_gap.Goals as goal

pub loop-t-init : goal.loop-t-init
loop-t-init c = shift_none _ _

pub loop-t-preserved : goal.loop-t-preserved
loop-t-preserved c = shift-more _ _ _ c.loop-t.invariant c.site_at-x.ensures c.put_site.ensures
