-- `chain_start::state_allowed` meets its contract: the two comparisons with 2 ^ 190 are the bound on the magnitude.
-- Assumes nothing.
use mathlib.Core.Path.{◌∙◌}
use lib.Ieee.{of_bits}
use Rattle.numbers.proofs.Bounds.{small, large}
use Rattle.chain_start.proofs.state_allowed.Goals as goal

pub returns-then-x : goal.returns-then-x
unfolding of_bits
returns-then-x c = small 190 c.args.x c.if-x.true

pub returns-else-x : goal.returns-else-x
unfolding of_bits
returns-else-x c = c.if-x.false ∙ large 190 c.args.x c.if-x.false
