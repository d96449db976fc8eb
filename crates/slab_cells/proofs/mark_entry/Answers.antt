use borrow.Author.Rules.{rules}
use Rattle.slab_cells.proofs.CellLaws.{put-marked}
use Rattle.slab_cells.proofs.mark_entry.Goals as goal

pub returns-then-i-skip : goal.returns-then-i-skip
returns-then-i-skip c = put-marked c.args.x _ _ _ c.if-i-skip.true (search rules) (search rules)
