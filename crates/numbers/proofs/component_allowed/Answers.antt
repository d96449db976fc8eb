-- `numbers::component_allowed` meets its contract: the two comparisons with 2 ^ 200 are the bound on the magnitude.
-- Assumes nothing.
use mathlib.Core.Path.{◌∙◌}
use lib.Ieee.{of_bits}
use Rattle.numbers.specs.Numbers.{allowed}
use Rattle.numbers.proofs.Bounds.{small, large}
use Rattle.numbers.proofs.component_allowed.Goals as goal

pub returns-then-x-most : goal.returns-then-x-most
unfolding of_bits allowed
returns-then-x-most c = small 200 c.args.x c.if-x-most.true

pub returns-else-x-most : goal.returns-else-x-most
unfolding of_bits allowed
returns-else-x-most c = c.if-x-most.false ∙ large 200 c.args.x c.if-x-most.false
