-- `exact_roots::squares_to` meets its contract (`Even.antt`). Assumes nothing.
use native.Mathlib.Omega.{arith}
use mathlib.Core.Path.{sym, ◌∙◌}
use borrow.Author.Tests.{ne_eqb}
use Rattle.numbers.proofs.Mending.{product-fits}
use Rattle.exact_roots.proofs.Even.{other-exponent, no-zeros, zeros-left}
use Rattle.exact_roots.proofs.squares_to.Goals as goal

pub returns-then-a-e : goal.returns-then-a-e
returns-then-a-e c =
    let p = c.requires in
    sym (ne_eqb _ _ (other-exponent _ _ p.0 p.1 p.2 _ p.3 c.if-a-e.true))

pub overflow_mul-result : goal.overflow_mul-result
overflow_mul-result c = record { fits = product-fits _ _ (omega arith) (omega arith) }

pub returns-then-q-eq0 : goal.returns-then-q-eq0
returns-then-q-eq0 c =
    let p = c.requires in
    zeros-left _ _ p.0 p.1 p.2 _ p.3 c.if-a-e.false c.if-q-eq0.true

pub returns-else-q-eq0 : goal.returns-else-q-eq0
returns-else-q-eq0 c =
    let p = c.requires in
    ne_eqb _ _ c.if-q-eq0.false ∙ sym (ne_eqb _ _ (no-zeros _ _ p.0 p.1 p.2 _ p.3 c.if-a-e.false c.if-q-eq0.false))
