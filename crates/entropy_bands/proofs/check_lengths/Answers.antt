-- `entropy_bands::check_lengths` meets its contract: one test after the other. Assumes nothing.
use native.Mathlib.Omega.{arith}
use Rattle.qubits.proofs.NamedLaws.{pow_small}
use Rattle.entropy_bands.proofs.check_lengths.Goals as goal

pub overflow_mul-cells : goal.overflow_mul-cells
overflow_mul-cells c = omega (arith, c.bit-cells.ensures, pow_small _ c.requires.0)

pub overflow_mul-cells-2 : goal.overflow_mul-cells-2
overflow_mul-cells-2 c = omega (arith, c.bit-cells.ensures, pow_small _ c.requires.0)

pub overflow_add-cells : goal.overflow_add-cells
overflow_add-cells c = omega (arith, c.bit-cells.ensures, pow_small _ c.requires.0, c.requires.1)
