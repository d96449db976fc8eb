use mathlib.Core.Path.{sym, ◌∙◌}
use Rattle.values.proofs.ListLaws.{squares-end, squares-more}
use Rattle.values.proofs.sum_of_squares.Goals as goal

pub loop-x-preserved : goal.loop-x-preserved
loop-x-preserved c = c.loop-x.invariant ∙ squares-more _ _ _ c.loop-x-test.true

pub returns : goal.returns
returns c = sym (c.loop-x.invariant ∙ squares-end _ _ _ c.loop-x-test.false)
