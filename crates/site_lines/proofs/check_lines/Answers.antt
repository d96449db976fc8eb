use mathlib.Core.Path.{sym, ◌∙◌}
use native.Mathlib.Omega.{arith}
use mathlib.Core.Path.{◌≡◌}
use Rattle.answers.specs.Paper.{table}
use Rattle.answers.proofs.Stopped.{refused, passed}
use Rattle.site_lines.proofs.SourceLaws.{lines_next, lines_end}
use Rattle.site_lines.proofs.check_lines.Goals as goal

pub returns-in_err-check_cells : goal.returns-in_err-check_cells
returns-in_err-check_cells c =
    let h : table c.in_err-check_cells.field-0.0 ≡ _ = refused _ _ _ c.in_err-check_cells.ensures ∙ lines_next _ _ _ _ _ c.loop-i.invariant c.loop-i-test.true in
    grind (arith, h)

pub loop-i-preserved : goal.loop-i-preserved
loop-i-preserved c = sym (passed _ _ _ c.check_cells.ensures c.in_ok-check_cells.was) ∙ lines_next _ _ _ _ _ c.loop-i.invariant c.loop-i-test.true

pub returns : goal.returns
returns c = lines_end _ _ _ _ _ c.loop-i.invariant c.loop-i-test.false
