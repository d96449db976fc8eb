-- `page_lines::put_bits` meets its contract. Two texts, one after the other.
-- Assumes nothing.
use native.Mathlib.Omega.{arith}
use Rattle.texts.proofs.TextLaws.{puts_then}
use Rattle.page_lines.specs.PageLines.{bits_line}
use Rattle.page_lines.proofs.PageLineLaws.{length-hex-item}
use Rattle.page_lines.proofs.put_bits.Goals as goal

pub put_text-requires : goal.put_text-requires
put_text-requires c = omega (arith, c.requires, c.put_hex_item-next.ensures.next, c.put_hex_item-next.auto.out, length-hex-item c.args.word.now c.args.bits)

pub returns : goal.returns
unfolding bits_line
returns c = puts_then _ _ _ _ _ _ _ _ (omega (arith, c.requires, length-hex-item c.args.word.now c.args.bits)) c.put_hex_item-next.ensures c.put_text.ensures
