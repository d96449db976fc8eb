-- `page_lines::put_hex_item` meets its contract. Two texts, one after the other.
-- Assumes nothing.
use native.Mathlib.Omega.{arith}
use Rattle.texts.proofs.TextLaws.{puts_then}
use Rattle.page_lines.specs.PageLines.{hex_item}
use Rattle.page_lines.proofs.put_hex_item.Goals as goal

pub returns : goal.returns
unfolding hex_item
returns c = puts_then _ _ _ _ _ _ _ _ (omega (arith, c.requires)) c.put_text-next.ensures c.put_hex.ensures
