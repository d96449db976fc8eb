-- `lot_lines::put_lines` meets its contract. Assumes nothing.
use Rattle.lot_lines.proofs.SheetLineLaws.{eleven, sixteen, length-counts, all_lines}
use Rattle.lot_lines.specs.SheetLines.{lot_word, answer_word, rank_word, answers_of, ranks_of}
use Rattle.texts.proofs.TextLaws.{length-line}
use lib.ListN.{length}
use native.Mathlib.Omega.{arith}
use borrow.Author.Rules.{rules}
use Rattle.lot_lines.proofs.put_lines.Goals as goal

pub put_counts-third-requires : goal.put_counts-third-requires
put_counts-third-requires c = let a = c.args in let p = c.put_line-second in (omega (arith, p.ensures.next, p.auto.out, length-line lot_word a.count, eleven a.sheet.now c.requires.1, c.requires.0), search rules, search rules)

pub put_counts-last-requires : goal.put_counts-last-requires
put_counts-last-requires c = let a = c.args in let p = c.put_line-second in let q = c.put_counts-third in (omega (arith, p.ensures.next, p.auto.out, length-line lot_word a.count, eleven a.sheet.now c.requires.1, sixteen a.sheet.now c.requires.1, q.ensures.next, q.auto.out, length-counts answer_word 0 (length (answers_of a.sheet.now)) (answers_of a.sheet.now) (omega arith), c.requires.0), search rules, search rules)

pub put_marks-requires : goal.put_marks-requires
put_marks-requires c = let a = c.args in let p = c.put_line-second in let q = c.put_counts-third in let s = c.put_counts-last in (omega (arith, p.ensures.next, p.auto.out, length-line lot_word a.count, eleven a.sheet.now c.requires.1, sixteen a.sheet.now c.requires.1, q.ensures.next, q.auto.out, length-counts answer_word 0 (length (answers_of a.sheet.now)) (answers_of a.sheet.now) (omega arith), s.ensures.next, s.auto.out, length-counts rank_word 1 (length (ranks_of a.sheet.now)) (ranks_of a.sheet.now) (omega arith), c.requires.0), c.requires.1)

pub returns : goal.returns
returns c = all_lines c.args.count c.args.sheet.now _ _ _ _ _ _ _ _ _ c.requires.1 c.requires.0 c.put_line-second.ensures c.put_counts-third.ensures c.put_counts-last.ensures c.put_marks.ensures
