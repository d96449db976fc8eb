-- `numbers::total_order` meets its contract. Assumes nothing.
use mathlib.Core.Path.{sym, ◌∙◌}
use Rattle.numbers.proofs.Helpers.{order-less, order-greater, order-equal}
use Rattle.numbers.proofs.total_order.Goals as goal

pub returns-then-total_less : goal.returns-then-total_less
returns-then-total_less c = order-less _ _ (sym c.total_less.ensures ∙ c.if-total_less.true)

pub returns-then-total_less-2 : goal.returns-then-total_less-2
returns-then-total_less-2 c = order-greater _ _ (sym c.total_less.ensures ∙ c.if-total_less.false) (sym c.total_less-2.ensures ∙ c.if-total_less-2.true)

pub returns : goal.returns
returns c = order-equal _ _ (sym c.total_less.ensures ∙ c.if-total_less.false) (sym c.total_less-2.ensures ∙ c.if-total_less-2.false)
