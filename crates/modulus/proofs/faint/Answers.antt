-- `modulus::faint` meets its contract: the shifted 1 is `leading m` (`Ways.antt`). Assumes nothing.
use native.Mathlib.Omega.{arith}
use Rattle.numbers.proofs.Mending.{bits-no-nan}
use Rattle.modulus.proofs.Ways.{zeros-lo, zeros-hi, shifted, leading-below, faint-by}
use Rattle.modulus.proofs.faint.Goals as goal

pub faint_part-requires : goal.faint_part-requires
faint_part-requires c = rw c.from-z.ensures (zeros-lo _ c.requires.0 c.requires.1, zeros-hi _ c.requires.0 c.requires.1, c.requires.2, c.requires.4)

pub faint_part-requires-2 : goal.faint_part-requires-2
faint_part-requires-2 c = rw c.from-z.ensures (zeros-lo _ c.requires.0 c.requires.1, zeros-hi _ c.requires.0 c.requires.1, c.requires.3, c.requires.5)

pub overflow_sub-result : goal.overflow_sub-result
overflow_sub-result c = rw c.from-z.ensures (zeros-hi _ c.requires.0 c.requires.1)

pub overflow_shl-result : goal.overflow_shl-result
overflow_shl-result c = omega (arith, zeros-hi _ c.requires.0 c.requires.1)

pub float_from_bits-result : goal.float_from_bits-result
float_from_bits-result c = bits-no-nan _ (rw c.from-z.ensures (omega (arith, shifted _ c.requires.0 c.requires.1, leading-below _ c.requires.0 c.requires.1)))

pub returns : goal.returns
returns c = rw c.from-z.ensures (faint-by _ c.requires.0 c.requires.1 _ _ _ _ _ (rw c.from-z.ensures at c.faint_part.ensures) (rw c.from-z.ensures at c.faint_part-2.ensures) c.root_of_squares.ensures)
