use Rattle.slab_cells.proofs.CellLaws.{clean-none, clean-more, clean-bad, clean_end}
use borrow.Author.Rules.{rules}
use Rattle.slab_cells.proofs.is_clean.Goals as goal

pub loop-c-init : goal.loop-c-init
loop-c-init c = clean-none _ _

pub returns-then-not-cell_passes : goal.returns-then-not-cell_passes
returns-then-not-cell_passes c = clean-bad _ _ _ c.loop-c-test.true c.cell_passes.ensures c.if-not-cell_passes.true

pub loop-c-preserved : goal.loop-c-preserved
loop-c-preserved c = clean-more _ _ _ c.loop-c.invariant c.cell_passes.ensures c.if-not-cell_passes.false

pub returns : goal.returns
returns c = clean_end _ _ _ c.loop-c.invariant (search rules) (search rules)
