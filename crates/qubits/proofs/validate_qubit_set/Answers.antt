use mathlib.Core.Path.{sym, ◌∙◌}
use Rattle.qubits.proofs.ListLaws.{places-out, places-twice, places-past, places-end}
use Rattle.qubits.proofs.validate_qubit_set.Goals as goal

pub returns-then-n-q : goal.returns-then-n-q
returns-then-n-q c =
    sym (rw (places-out _ _ _ c.loop-i-test.true c.if-n-q.true) at c.loop-i.invariant)

pub returns-then-stands_in : goal.returns-then-stands_in
returns-then-stands_in c =
    let t = sym c.stands_in.ensures ∙ c.if-stands_in.true in
    sym (rw (places-twice _ _ _ c.loop-i-test.true c.if-n-q.false t) at c.loop-i.invariant)

pub loop-i-preserved : goal.loop-i-preserved
loop-i-preserved c =
    let t = sym c.stands_in.ensures ∙ c.if-stands_in.false in
    rw (places-past _ _ _ c.loop-i-test.true c.if-n-q.false t) at c.loop-i.invariant

pub returns-then-is_empty : goal.returns-then-is_empty
returns-then-is_empty c =
    sym ((rw (places-end _ _ _ c.loop-i-test.false) at c.loop-i.invariant) ∙ rw (sym c.is_empty.ensures ∙ c.if-is_empty.true))

pub returns : goal.returns
returns c =
    sym ((rw (places-end _ _ _ c.loop-i-test.false) at c.loop-i.invariant) ∙ rw (sym c.is_empty.ensures ∙ c.if-is_empty.false))
