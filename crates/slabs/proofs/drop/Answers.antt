-- `slabs::drop` meets its contract. Assumes nothing.
use borrow.Author.Rules.{rules}
use Rattle.slab_tests.proofs.TestLaws.{said-sound, sound-count}
use Rattle.slabs.proofs.SlabLaws.{drop-fits}
use Rattle.slabs.proofs.drop.Goals as goal

pub find_site-requires : goal.find_site-requires
find_site-requires c = let a = c.args in sound-count a.cells.now a.index.now (said-sound a.cells.now a.index.now c.is_sound.ensures c.if-not-is_sound.false)

pub drop_at-requires : goal.drop_at-requires
drop_at-requires c = let a = c.args in drop-fits a.cells.now a.index.now c.is_sound.ensures c.if-not-is_sound.false (search rules)
