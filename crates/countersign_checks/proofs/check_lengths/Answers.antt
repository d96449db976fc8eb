-- `countersign_checks::check_lengths` meets its contract: four exact lengths, one after the other. Assumes nothing.
use native.Mathlib.Omega.{arith}
use Rattle.matrix_sizes.proofs.SizesLaws.{side-cells}
use Rattle.countersign_checks.proofs.check_lengths.Goals as goal

pub overflow_mul-m-3 : goal.overflow_mul-m-3
overflow_mul-m-3 c = omega (arith, c.requires, (side-cells _ _ _ c.smaller_size-k.ensures).0)

pub overflow_mul-m-4 : goal.overflow_mul-m-4
overflow_mul-m-4 c = omega (arith, c.requires, (side-cells _ _ _ c.smaller_size-k.ensures).0)

pub overflow_mul-k : goal.overflow_mul-k
overflow_mul-k c = omega (arith, c.requires, (side-cells _ _ _ c.smaller_size-k.ensures).1)

pub overflow_mul-k-2 : goal.overflow_mul-k-2
overflow_mul-k-2 c = omega (arith, c.requires, (side-cells _ _ _ c.smaller_size-k.ensures).1)
