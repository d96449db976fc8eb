-- `numbers::is_finite` meets its contract: a number is finite where it lies between the infinities. Assumes nothing.
use mathlib.Core.Path.{◌∙◌}
use lib.Ieee.{neg, of_bits, of_fields, nan_bits}
use Rattle.numbers.proofs.Helpers.{below-infinity, not-below-infinity}
use Rattle.numbers.proofs.is_finite.Goals as goal

pub float_from_bits-infinity : goal.float_from_bits-infinity
unfolding nan_bits
float_from_bits-infinity c = tt

pub returns-then-x-infinity : goal.returns-then-x-infinity
unfolding neg of_bits of_fields
returns-then-x-infinity c = below-infinity _ c.if-x-infinity.true

pub returns-else-x-infinity : goal.returns-else-x-infinity
unfolding of_bits of_fields
returns-else-x-infinity c = c.if-x-infinity.false ∙ not-below-infinity _ c.if-x-infinity.false
