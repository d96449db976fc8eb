-- `lines::put_value` meets its contract. Four texts, one after the other.
-- Assumes nothing.
use native.Mathlib.Omega.{arith}
use mathlib.Core.List.{◌++◌}
use lib.ListN.{length-append}
use Rattle.texts.specs.Text.{item_text, hex}
use Rattle.lines.specs.Lines.{value_word, blank, value_line}
use Rattle.texts.proofs.TextLaws.{length-item, length-hex, puts_then}
use Rattle.lines.proofs.put_value.Goals as goal

pub put_text-digits-requires : goal.put_text-digits-requires
put_text-digits-requires c = omega (arith, c.put_item-past_rank.ensures.next, c.put_item-past_rank.auto.out, length-item value_word c.args.rank)

pub put_hex-end-requires : goal.put_hex-end-requires
put_hex-end-requires c = omega (arith, c.put_item-past_rank.ensures.next, c.put_item-past_rank.auto.out, length-item value_word c.args.rank, c.put_text-digits.ensures.next, c.put_text-digits.auto.out)

pub put_text-requires : goal.put_text-requires
put_text-requires c = omega (arith, c.put_item-past_rank.ensures.next, c.put_item-past_rank.auto.out, length-item value_word c.args.rank, c.put_text-digits.ensures.next, c.put_text-digits.auto.out, c.put_hex-end.ensures.next, c.put_hex-end.auto.out, length-hex 16 c.args.bits)

pub returns : goal.returns
unfolding value_line
returns c = let i = length-item value_word c.args.rank in let a = length-append (item_text value_word c.args.rank) blank in let h = length-hex 16 c.args.bits in let b = length-append (item_text value_word c.args.rank ++ blank) (hex 16 c.args.bits) in puts_then _ _ _ _ _ _ _ _ (omega (arith, c.requires)) (puts_then _ _ _ _ _ _ _ _ (omega (arith, c.requires)) (puts_then _ _ _ _ _ _ _ _ (omega (arith, c.requires)) c.put_item-past_rank.ensures c.put_text-digits.ensures) c.put_hex-end.ensures) c.put_text.ensures
