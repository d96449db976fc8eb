-- `lines::put_end` meets its contract. Three texts, one after the other; their lengths bound the room. Assumes nothing.
use native.Mathlib.Omega.{arith}
use lib.ListN.{length-append}
use Rattle.texts.specs.Text.{item_text}
use Rattle.lines.specs.Lines.{end_word, blank, end_line}
use Rattle.texts.proofs.TextLaws.{length-item, puts_then}
use Rattle.lines.proofs.put_end.Goals as goal

pub put_item-past_sweeps-requires : goal.put_item-past_sweeps-requires
put_item-past_sweeps-requires c = let p = c.put_item-past_count in omega (arith, p.ensures.next, p.auto.out, length-item end_word c.args.count)

pub put_quiet-requires : goal.put_quiet-requires
put_quiet-requires c =
    let p = c.put_item-past_count in
    let q = c.put_item-past_sweeps in
    let a = c.args in
    omega (arith, p.ensures.next, p.auto.out, length-item end_word a.count, q.ensures.next, q.auto.out, length-item blank a.sweeps)

pub returns : goal.returns
unfolding end_line
returns c =
    let a = c.args in
    let i = length-item end_word a.count in
    let j = length-item blank a.sweeps in
    puts_then _ _ _ _ _ _ _ _ (omega (arith, length-append (item_text end_word a.count) (item_text blank a.sweeps), i, j))
    (puts_then _ _ _ _ _ _ _ _ (omega (arith, i)) c.put_item-past_count.ensures c.put_item-past_sweeps.ensures)
    c.put_quiet.ensures
