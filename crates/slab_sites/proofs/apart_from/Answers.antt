use Rattle.slab_sites.proofs.SiteLaws.{from-none, from_more, from-bad}
use Rattle.slab_sites.proofs.apart_from.Goals as goal

pub loop-j-init : goal.loop-j-init
loop-j-init c = from-none _ _

pub returns-then-not-are_apart : goal.returns-then-not-are_apart
returns-then-not-are_apart c = from-bad _ _ _ _ c.loop-j-test.true c.site_at.ensures c.are_apart.ensures c.if-not-are_apart.true

pub loop-j-preserved : goal.loop-j-preserved
loop-j-preserved c = from_more _ _ _ c.loop-j.invariant c.site_at.ensures c.are_apart.ensures c.if-not-are_apart.false
