-- `file_cases::put_lot` meets its contract. Assumes nothing.
use mathlib.Core.Path.{sym}
use native.Mathlib.Omega.{arith}
use Rattle.answers.specs.Paper.{table}
use Rattle.lot_lines.proofs.SheetLineLaws.{length-sheet, puts-counts}
use Rattle.lots.proofs.LotLaws.{header-fits}
use Rattle.lines.proofs.LineLaws.{length-refused}
use Rattle.file_cases.proofs.CaseLaws.{made-long, made-header}
use Rattle.file_cases.proofs.put_lot.Goals as goal

pub number_at-requires : goal.number_at-requires
number_at-requires c = (header-fits _ (made-header _ _ _ c.in-Ok.ensures)).0

pub slice_bounds-put_lines-end : goal.slice_bounds-put_lines-end
slice_bounds-put_lines-end c = sym (made-long _ _ _ c.in-Ok.ensures)

pub put_lines-requires : goal.put_lines-requires
put_lines-requires c = (omega (arith, c.requires), made-long _ _ _ c.in-Ok.ensures)

pub returns-in-Ok : goal.returns-in-Ok
returns-in-Ok c =
    puts-counts _ _ _ _ (omega (arith, length-sheet c.number_at.result c.lot_sheet.new.sheet (made-long _ _ _ c.in-Ok.ensures), c.requires)) c.put_lines.ensures

pub returns-in-Err : goal.returns-in-Err
returns-in-Err c = puts-counts _ _ _ _ (omega (arith, length-refused (table c.in-Err.refusal), c.requires)) c.put_refused.ensures
