use mathlib.Core.Path.{sym, ◌∙◌}
use Rattle.chain_start.proofs.StartLaws.{state-bad, state-good, state-end}
use Rattle.chain_start.proofs.check_state.Goals as goal

pub returns-then-not-state_allowed : goal.returns-then-not-state_allowed
returns-then-not-state_allowed c =
    sym (c.loop-i.invariant ∙ state-bad _ _ _ c.loop-i-test.true (sym c.state_allowed.ensures ∙ c.if-not-state_allowed.true))

pub loop-i-preserved : goal.loop-i-preserved
loop-i-preserved c = c.loop-i.invariant ∙ state-good _ _ _ c.loop-i-test.true (sym c.state_allowed.ensures ∙ c.if-not-state_allowed.false)

pub returns : goal.returns
returns c = sym (c.loop-i.invariant ∙ state-end _ _ _ c.loop-i-test.false)
