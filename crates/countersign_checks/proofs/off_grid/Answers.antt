use mathlib.Core.Path.{sym, ◌∙◌}
use Rattle.countersign_checks.proofs.CheckLaws.{grid-bad, grid-good, grid-end}
use Rattle.countersign_checks.proofs.off_grid.Goals as goal

pub returns-then-is_none : goal.returns-then-is_none
returns-then-is_none c = sym (c.loop-i.invariant ∙ grid-bad _ _ _ c.loop-i-test.true c.grid_of.ensures c.is_none.ensures c.if-is_none.true)

pub loop-i-preserved : goal.loop-i-preserved
loop-i-preserved c = c.loop-i.invariant ∙ grid-good _ _ _ c.loop-i-test.true c.grid_of.ensures c.is_none.ensures c.if-is_none.false

pub returns : goal.returns
returns c = sym (c.loop-i.invariant ∙ grid-end _ _ _ c.loop-i-test.false)
