-- `slabs::put` meets its contract. Assumes nothing.
use Rattle.slabs.proofs.SlabLaws.{put-fits}
use Rattle.slabs.proofs.put.Goals as goal

pub put_at-requires : goal.put_at-requires
put_at-requires c = let a = c.args in put-fits a.cells.now a.index.now a.site a.«data».now c.judge.ensures c.in_ok-start.was
