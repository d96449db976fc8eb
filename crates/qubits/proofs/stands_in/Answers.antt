-- `qubits::stands_in` meets its contract. Assumes nothing.
use mathlib.Core.Path.{refl, sym, ◌∙◌}
use Rattle.qubits.proofs.ListLaws.{stands_here, stands-past, stands-end}
use Rattle.qubits.proofs.stands_in.Goals as goal

pub returns-then-x-q : goal.returns-then-x-q
returns-then-x-q c = sym (c.loop-x.invariant ∙ stands_here _ _ _ c.loop-x-test.true c.if-x-q.true)

pub loop-x-preserved : goal.loop-x-preserved
loop-x-preserved c = c.loop-x.invariant ∙ stands-past _ _ _ c.loop-x-test.true c.if-x-q.false

pub returns : goal.returns
returns c = sym (c.loop-x.invariant ∙ stands-end _ _ _ c.loop-x-test.false)
