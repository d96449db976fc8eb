-- `slab_tests::judge` meets its contract: a sound slab has few enough sites, all of them apart. Assumes nothing.
use mathlib.Core.Path.{sym, ◌∙◌}
use Rattle.slab_tests.proofs.TestLaws.{sound-count, sound-apart, said-sound, one_cell}
use Rattle.slab_tests.proofs.judge.Goals as goal

pub find_site-held-requires : goal.find_site-held-requires
find_site-held-requires c = let a = c.args in sound-count a.cells.now a.index.now (said-sound a.cells.now a.index.now c.is_sound.ensures c.if-not-is_sound.false)

pub room_for-requires : goal.room_for-requires
room_for-requires c =
    let a = c.args in
    let s = said-sound a.cells.now a.index.now c.is_sound.ensures c.if-not-is_sound.false in
    (sound-count a.cells.now a.index.now s, sound-apart a.cells.now a.index.now s, one_cell a.len (sym c.is_bad.ensures ∙ c.if-is_bad.false))
