-- `clean_numbers::is_clean` meets its contract, each way through its code. Assumes nothing.
use mathlib.Core.Path.{◌∙◌}
use Rattle.clean_numbers.proofs.CleanLaws.{square-clean, is-zero, no-zero}
use Rattle.clean_numbers.proofs.is_clean.Goals as goal

pub returns-then-x : goal.returns-then-x
returns-then-x c = c.if-x.true ∙ square-clean _ c.if-x.true

pub returns-then-x-2 : goal.returns-then-x-2
returns-then-x-2 c = c.is_finite.ensures ∙ no-zero _ c.if-x-2.true

pub returns-else-x-2 : goal.returns-else-x-2
returns-else-x-2 c = is-zero _ c.if-x-2.false
