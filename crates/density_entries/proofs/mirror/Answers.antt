use Rattle.density_entries.proofs.MirroredLaws.{row-end, mirror-end}
use Rattle.density_entries.proofs.mirror.Goals as goal

pub returns : goal.returns
returns c = mirror-end _ _ _ c.requires (row-end _ _ _ _ c.loop-t.invariant c.loop-t-test.false)
