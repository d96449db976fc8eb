-- `page_lines::put_list` meets its contract. Three texts, one after the other.
-- Assumes nothing.
use native.Mathlib.Omega.{arith}
use lib.ListN.{length, length-append}
use Rattle.texts.proofs.TextLaws.{puts_then}
use Rattle.lines.specs.Lines.{items}
use Rattle.lines.proofs.LineLaws.{length-items}
use Rattle.page_lines.specs.PageLines.{list_word, list_line}
use Rattle.page_lines.proofs.put_list.Goals as goal

pub put_text-requires : goal.put_text-requires
put_text-requires c = omega (arith, c.requires, c.put_text-next.ensures.next, c.put_text-next.auto.out, c.put_items-last.ensures.next, c.put_items-last.auto.out, length-items (length c.args.list.now) c.args.list.now)

pub returns : goal.returns
unfolding list_line
returns c =
    let l = c.args.list.now in
    let i = length-items (length l) l in
    let a = length-append list_word (items (length l) l) in
    puts_then _ _ _ _ _ _ _ _ (omega (arith, c.requires))
    (puts_then _ _ _ _ _ _ _ _ (omega (arith, c.requires)) c.put_text-next.ensures c.put_items-last.ensures) c.put_text.ensures
