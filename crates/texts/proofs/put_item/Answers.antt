-- `texts::put_item` meets its contract. Two texts, one after the other.
-- Assumes nothing.
use native.Mathlib.Omega.{arith}
use Rattle.texts.specs.Text.{item_text}
use Rattle.texts.proofs.TextLaws.{puts_then}
use Rattle.texts.proofs.put_item.Goals as goal

pub put_decimal-requires : goal.put_decimal-requires
put_decimal-requires c = omega (arith, c.put_text-next.ensures.next, c.put_text-next.auto.out)

pub returns : goal.returns
unfolding item_text
returns c = puts_then _ _ _ _ _ _ _ _ (omega arith) c.put_text-next.ensures c.put_decimal.ensures
