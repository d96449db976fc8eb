use borrow.Author.Rules.{rules}
use Rattle.slab_cells.proofs.CellLaws.{put-wiped}
use Rattle.slab_cells.proofs.wipe.Goals as goal

pub returns : goal.returns
returns c = put-wiped _ _ _ c.requires (search rules) (search rules)
