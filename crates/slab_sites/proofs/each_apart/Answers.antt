use Rattle.slab_sites.proofs.SiteLaws.{each_none, each_more, each-leaves, each-meets}
use Rattle.slab_sites.proofs.each_apart.Goals as goal
use Rattle.slab_sites.proofs.each_apart.Goals.{then-not-is_inside-via-then-not-is_inside, then-not-is_inside-via-else-not-is_inside+then-not-apart_from}

pub loop-i-init : goal.loop-i-init
loop-i-init c = each_none _

pub returns-then-not-is_inside : goal.returns-then-not-is_inside
returns-then-not-is_inside c =
    elim c.then-not-is_inside.branch [
      | then-not-is_inside-via-then-not-is_inside w ↦ each-leaves _ _ c.site_at-x.ensures c.is_inside.ensures _ c.loop-i-test.true w.if-not-is_inside.true
      | then-not-is_inside-via-else-not-is_inside+then-not-apart_from w ↦ each-meets _ _ c.site_at-x.ensures c.is_inside.ensures w.apart_from.ensures _ c.loop-i-test.true w.if-not-apart_from.true
    ]

pub loop-i-preserved : goal.loop-i-preserved
loop-i-preserved c = each_more _ _ c.site_at-x.ensures c.is_inside.ensures c.apart_from.ensures c.loop-i.invariant c.if-not-is_inside.false c.if-not-apart_from.false
