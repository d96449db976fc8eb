-- `hermitian_eigen::shift_of` meets its contract: the peak times the side, plus 1. Assumes nothing.
use native.Mathlib.Nat.{mul-le-mul}
use native.Mathlib.Omega.{arith}
use Rattle.stable_order.proofs.PlacesLaws.{small-in}
use Rattle.hermitian_eigen.specs.Shifted.{shift_of}
use Rattle.hermitian_eigen.proofs.shift_of.Goals as goal

pub overflow_mul-dim : goal.overflow_mul-dim
overflow_mul-dim c = omega (arith, mul-le-mul c.requires.0 c.requires.0)

pub peak-requires : goal.peak-requires
peak-requires c = c.requires.1

pub int_to_float-result : goal.int_to_float-result
int_to_float-result c = small-in _ (omega (arith, c.requires.0))

pub returns : goal.returns
unfolding shift_of
returns c = rw c.peak.ensures
