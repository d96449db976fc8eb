-- `numbers::sign` meets its contract, by the sign. Assumes nothing.
use mathlib.Core.Path.{sym, ◌∙◌}
use Rattle.numbers.proofs.Helpers.{sign-nan, sign-minus, sign-plus}
use Rattle.numbers.proofs.sign.Goals as goal

pub returns-then-x : goal.returns-then-x
returns-then-x c = sign-nan _ c.if-x.true

pub returns-then-minus_sign : goal.returns-then-minus_sign
returns-then-minus_sign c = sign-minus _ (sym c.minus_sign.ensures ∙ c.if-minus_sign.true)

pub returns-else-minus_sign : goal.returns-else-minus_sign
returns-else-minus_sign c = sign-plus _ c.if-x.false (sym c.minus_sign.ensures ∙ c.if-minus_sign.false)
