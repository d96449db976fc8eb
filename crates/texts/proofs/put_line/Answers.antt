-- `texts::put_line` meets its contract. Two texts, one after the other.
-- Assumes nothing.
use native.Mathlib.Omega.{arith}
use Rattle.texts.specs.Text.{line}
use Rattle.texts.proofs.TextLaws.{length-item, puts_then}
use Rattle.texts.proofs.put_line.Goals as goal

pub put_text-requires : goal.put_text-requires
put_text-requires c = omega (arith, c.put_item-next.ensures.next, c.put_item-next.auto.out, length-item c.args.word.now c.args.a)

pub returns : goal.returns
unfolding line
returns c = puts_then _ _ _ _ _ _ _ _ (omega (arith, length-item c.args.word.now c.args.a)) c.put_item-next.ensures c.put_text.ensures
