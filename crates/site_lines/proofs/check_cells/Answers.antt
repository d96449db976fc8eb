use Rattle.site_lines.proofs.SourceLaws.{cell-bad, cell-good, cells-end}
use Rattle.site_lines.proofs.check_cells.Goals as goal

pub returns-then-not-cell_allowed : goal.returns-then-not-cell_allowed
returns-then-not-cell_allowed c = cell-bad _ _ _ _ c.loop-t.invariant c.loop-t-test.true c.read_cell.ensures c.cell_allowed.ensures c.if-not-cell_allowed.true

pub loop-t-preserved : goal.loop-t-preserved
loop-t-preserved c = cell-good _ _ _ _ c.loop-t.invariant c.loop-t-test.true c.read_cell.ensures c.cell_allowed.ensures c.if-not-cell_allowed.false

pub returns : goal.returns
returns c = cells-end _ _ _ _ c.loop-t.invariant c.loop-t-test.false
