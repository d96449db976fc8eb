-- `nightbatch::put_lot` meets its contract. Assumes nothing.
use Rattle.lot_lines.proofs.SheetLineLaws.{length-sheet, puts-counts}
use Rattle.lots.proofs.LotLaws.{header-fits}
use Rattle.lines.proofs.LineLaws.{length-refused}
use Rattle.answers.proofs.Stopped.{was-done}
use Rattle.answers.specs.Paper.{table}
use native.Mathlib.Omega.{arith}
use borrow.Author.Rules.{rules}
use Rattle.nightbatch.proofs.put_lot.Goals as goal

pub returns-in-Err : goal.returns-in-Err
returns-in-Err g c = puts-counts _ _ _ _ (omega (arith, length-refused (table c.in-Err.refusal), c.requires)) c.put_refused.ensures

pub number_at-count-requires : goal.number_at-count-requires
number_at-count-requires g c = (header-fits _ (was-done c.check_lot.result _ c.check_lot.ensures c.in-Ok.is)).0

pub tally-sheet-requires : goal.tally-sheet-requires
tally-sheet-requires g c = let h = header-fits _ (was-done c.check_lot.result _ c.check_lot.ensures c.in-Ok.is) in let n = c.number_at-count.ensures.0 in (omega (arith, n, h.1), omega (arith, n, h.2))

pub returns-in-Ok : goal.returns-in-Ok
returns-in-Ok g c = puts-counts _ _ _ _ (omega (arith, length-sheet c.number_at-count.result c.put_sheet.new.out (search rules), c.requires)) c.put_lines.ensures
