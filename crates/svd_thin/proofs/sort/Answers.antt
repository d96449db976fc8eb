-- `svd_thin::sort` meets its contract: the places that were written are read back as the order. Assumes nothing.
use Rattle.svd_thin.proofs.ThinLaws.{order-places, sorted-made}
use borrow.Author.Rules.{rules}
use Rattle.svd_thin.proofs.sort.Goals as goal

pub write_values-requires : goal.write_values-requires
write_values-requires c = (search rules, search rules, search rules, order-places _ _ c.requires.1 c.order_of.ensures, search rules)

pub returns : goal.returns
returns c = sorted-made _ _ c.requires.0 c.requires.1 c.order_of.ensures c.write_values.ensures
