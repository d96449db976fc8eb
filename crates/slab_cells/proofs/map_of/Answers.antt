use Rattle.slab_cells.proofs.CellLaws.{map-none, map_more, ends-within}
use Rattle.slab_cells.proofs.map_of.Goals as goal

pub loop-i-init : goal.loop-i-init
loop-i-init c = map-none _ _

pub mark_entry-requires : goal.mark_entry-requires
mark_entry-requires c = ends-within _ _ _ c.requires.1 c.loop-i-test.true c.site_at-x.ensures

pub loop-i-preserved : goal.loop-i-preserved
loop-i-preserved c = map_more _ _ _ c.loop-i.invariant c.site_at-x.ensures (ends-within _ _ _ c.requires.1 c.loop-i-test.true c.site_at-x.ensures) c.mark_entry.ensures
