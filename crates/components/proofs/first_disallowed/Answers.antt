use mathlib.Core.Path.{sym, ◌∙◌}
use Rattle.complex.proofs.CellLaws.{components-bad, components-good, components-end}
use Rattle.components.proofs.first_disallowed.Goals as goal

pub loop-i-preserved : goal.loop-i-preserved
loop-i-preserved c =
    c.loop-i.invariant ∙ components-good _ _ c.loop-i-test.true (sym c.component_allowed.ensures ∙ c.if-not-component_allowed.false)

pub returns-then-not-component_allowed : goal.returns-then-not-component_allowed
returns-then-not-component_allowed c =
    sym (c.loop-i.invariant ∙ components-bad _ _ c.loop-i-test.true (sym c.component_allowed.ensures ∙ c.if-not-component_allowed.true))

pub returns : goal.returns
returns c = sym (c.loop-i.invariant ∙ components-end _ _ c.loop-i-test.false)
