-- `numbers::magnitude` meets its contract, by the sign. Assumes nothing.
use mathlib.Core.Path.{sym, ◌∙◌}
use Rattle.numbers.proofs.Helpers.{cleared, clear}
use Rattle.numbers.proofs.magnitude.Goals as goal

pub returns-then-minus_sign : goal.returns-then-minus_sign
returns-then-minus_sign c = cleared _ (sym c.minus_sign.ensures ∙ c.if-minus_sign.true)

pub returns-else-minus_sign : goal.returns-else-minus_sign
returns-else-minus_sign c = clear _ (sym c.minus_sign.ensures ∙ c.if-minus_sign.false)
