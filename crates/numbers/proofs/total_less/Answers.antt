-- `numbers::total_less` meets its contract, by each test. Assumes nothing.
use mathlib.Core.Path.{sym, ◌∙◌}
use Rattle.numbers.proofs.Helpers.{total-nan, total-below, total-level, total-no-sign, total-above}
use Rattle.numbers.proofs.total_less.Goals as goal
use Rattle.numbers.proofs.total_less.Goals.{then-x-y-2, else-x-y-2}

pub returns-then-y : goal.returns-then-y
returns-then-y c = total-nan _ _ c.if-y.true

pub returns-then-x-y : goal.returns-then-x-y
returns-then-x-y c = total-below _ _ c.if-y.false c.if-x-y.true

pub returns-then-minus_sign : goal.returns-then-minus_sign
returns-then-minus_sign c =
    elim c.if-x-y-2.branch [
      | then-x-y-2 w ↦ total-level _ _ c.if-y.false c.if-x-y.false w.if-x-y-2.true w.minus_sign.ensures (sym w.value-is ∙ c.if-minus_sign.true) c.minus_sign-then-minus_sign.ensures
      | else-x-y-2 w ↦ cc
    ]

pub returns-else-minus_sign : goal.returns-else-minus_sign
returns-else-minus_sign c =
    elim c.if-x-y-2.branch [
      | then-x-y-2 w ↦ c.if-minus_sign.false ∙ total-no-sign _ _ c.if-y.false c.if-x-y.false w.if-x-y-2.true w.minus_sign.ensures (sym w.value-is ∙ c.if-minus_sign.false)
      | else-x-y-2 w ↦ c.if-minus_sign.false ∙ total-above _ _ c.if-y.false c.if-x-y.false w.if-x-y-2.false
    ]
