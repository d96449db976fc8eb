-- `lot_lines::put_marks` meets its contract. Assumes nothing.
use Rattle.lot_lines.proofs.SheetLineLaws.{three-lines}
use Rattle.lot_lines.specs.SheetLines.{smallest_word, largest_word}
use Rattle.texts.proofs.TextLaws.{length-pair}
use lib.ListN.{get_or}
use native.Mathlib.Omega.{arith}
use Rattle.lot_lines.proofs.put_marks.Goals as goal

pub put_pair_line-last-requires : goal.put_pair_line-last-requires
put_pair_line-last-requires c = let a = c.args.sheet in let p = c.put_pair_line-past in omega (arith, p.ensures.next, p.auto.out, length-pair smallest_word (get_or a.now 27 0) (get_or a.now 28 0), c.requires.0)

pub put_line-requires : goal.put_line-requires
put_line-requires c = let a = c.args.sheet in let p = c.put_pair_line-past in let q = c.put_pair_line-last in omega (arith, p.ensures.next, p.auto.out, length-pair smallest_word (get_or a.now 27 0) (get_or a.now 28 0), q.ensures.next, q.auto.out, length-pair largest_word (get_or a.now 29 0) (get_or a.now 30 0), c.requires.0)

pub returns : goal.returns
returns c = three-lines _ _ _ _ _ _ _ _ _ c.requires.0 c.put_pair_line-past.ensures c.put_pair_line-last.ensures c.put_line.ensures
