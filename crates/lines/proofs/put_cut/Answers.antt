-- `lines::put_cut` meets its contract. Three texts, one after the other; their lengths bound the room.
-- Assumes nothing.
use native.Mathlib.Omega.{arith}
use lib.ListN.{length-append}
use Rattle.texts.specs.Text.{item_text}
use Rattle.lines.specs.Lines.{cut_word, blank, cut_line}
use Rattle.texts.proofs.TextLaws.{length-item, puts_then}
use Rattle.lines.proofs.put_cut.Goals as goal

pub put_item-past_k-requires : goal.put_item-past_k-requires
put_item-past_k-requires c = omega (arith, c.put_item-past_n.ensures.next, c.put_item-past_n.auto.out, length-item cut_word c.args.n)

pub put_pair_line-requires : goal.put_pair_line-requires
put_pair_line-requires c = omega (arith, c.put_item-past_n.ensures.next, c.put_item-past_n.auto.out, length-item cut_word c.args.n, c.put_item-past_k.ensures.next, c.put_item-past_k.auto.out, length-item blank c.args.k)

pub returns : goal.returns
unfolding cut_line
returns c = puts_then _ _ _ _ _ _ _ _ (omega (arith, length-append (item_text cut_word c.args.n) (item_text blank c.args.k), length-item cut_word c.args.n, length-item blank c.args.k)) (puts_then _ _ _ _ _ _ _ _ (omega (arith, length-item cut_word c.args.n)) c.put_item-past_n.ensures c.put_item-past_k.ensures) c.put_pair_line.ensures
