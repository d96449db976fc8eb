-- `countersign_shifted::shifted_at` meets its contract: what is under is at most 2^18. Assumes nothing.
use native.Mathlib.Omega.{arith}
use Rattle.countersign_shifted.proofs.ShiftedLaws.{made-shifted, under-small}
use Rattle.countersign_shifted.proofs.shifted_at.Goals as goal

pub overflow_add-result : goal.overflow_add-result
overflow_add-result c = record { fits = omega (arith, under-small _ _ c.value_at-x.ensures) }

pub overflow_sub-result : goal.overflow_sub-result
overflow_sub-result c = omega (arith, under-small _ _ c.value_at-x.ensures)

pub overflow_cast-result : goal.overflow_cast-result
overflow_cast-result c = record { fits = omega (arith, under-small _ _ c.value_at-x.ensures) }

pub returns : goal.returns
returns c = made-shifted _ _ c.value_at-x.ensures
