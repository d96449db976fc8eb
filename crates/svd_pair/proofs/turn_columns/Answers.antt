-- `svd_pair::turn_columns` meets its contract: the way that is asked for, by the factors of the turn. Assumes nothing.
use Rattle.svd_pair.proofs.ZeroProductsLaws.{factors-real}
use borrow.Author.Rules.{rules}
use Rattle.svd_pair.proofs.turn_columns.Goals as goal

pub turn_all-requires : goal.turn_all-requires
turn_all-requires c = (search rules, search rules, search rules, factors-real _ _ _ c.new-f.ensures)

pub turn_all-requires-else-plainly : goal.turn_all-requires-else-plainly
turn_all-requires-else-plainly c = (search rules, search rules, search rules, factors-real _ _ _ c.new-f.ensures)
