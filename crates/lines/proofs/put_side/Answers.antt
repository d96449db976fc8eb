-- `lines::put_side` meets its contract. Three texts, one after the other.
-- Assumes nothing.
use native.Mathlib.Omega.{arith}
use lib.ListN.{length, length-append}
use Rattle.lines.specs.Lines.{side_word, items, side_line}
use Rattle.texts.proofs.TextLaws.{puts_then}
use Rattle.lines.proofs.LineLaws.{length-items}
use Rattle.lines.proofs.put_side.Goals as goal

pub put_items-last-requires : goal.put_items-last-requires
put_items-last-requires c = omega (arith, c.put_text-next.ensures.next, c.put_text-next.auto.out)

pub put_text-requires : goal.put_text-requires
put_text-requires c = omega (arith, c.put_text-next.ensures.next, c.put_text-next.auto.out, c.put_items-last.ensures.next, c.put_items-last.auto.out, length-items (length c.args.list.now) c.args.list.now)

pub returns : goal.returns
unfolding side_line
returns c = let l = c.args.list.now in let i = length-items (length l) l in let a = length-append side_word (items (length l) l) in puts_then _ _ _ _ _ _ _ _ (omega (arith, c.requires)) (puts_then _ _ _ _ _ _ _ _ (omega (arith, c.requires)) c.put_text-next.ensures c.put_items-last.ensures) c.put_text.ensures
