-- `slabs::replace` meets its contract. Assumes nothing.
use borrow.Author.Rules.{rules}
use Rattle.slabs.proofs.SlabLaws.{replace-count, replace-fits}
use Rattle.slabs.proofs.replace.Goals as goal

pub find_site-requires : goal.find_site-requires
find_site-requires c = let a = c.args in replace-count a.cells.now a.index.now a.site a.«data».now c.judge.ensures c.in_ok-start.was

pub replace_at-requires : goal.replace_at-requires
replace_at-requires c = let a = c.args in replace-fits a.cells.now a.index.now a.site a.«data».now c.judge.ensures c.in_ok-start.was (search rules)
