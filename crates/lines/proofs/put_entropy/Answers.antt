-- `lines::put_entropy` meets its contract. Two texts, one after the other; their lengths bound the room. Assumes nothing.
use native.Mathlib.Omega.{arith}
use Rattle.lines.specs.Lines.{entropy_word, entropy_line}
use Rattle.texts.proofs.TextLaws.{length-item, puts_then}
use Rattle.lines.proofs.put_entropy.Goals as goal

pub put_pair_line-requires : goal.put_pair_line-requires
put_pair_line-requires c = omega (arith, c.put_item-past_low.ensures.next, c.put_item-past_low.auto.out, length-item entropy_word c.args.low)

pub returns : goal.returns
unfolding entropy_line
returns c = puts_then _ _ _ _ _ _ _ _ (omega (arith, length-item entropy_word c.args.low)) c.put_item-past_low.ensures c.put_pair_line.ensures
