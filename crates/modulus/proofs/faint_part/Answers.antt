-- `modulus::faint_part` meets its contract: nothing is lost at the first multiplication (`Times.antt`). Assumes nothing.
use native.Mathlib.Omega.{arith}
use mathlib.Core.Path.{sym, subst}
use lib.Dec.{T}
use Rattle.numbers.proofs.Mending.{bits-no-nan}
use Rattle.modulus.proofs.Ways.{faint-over}
use Rattle.modulus.proofs.faint_part.Goals as goal

pub float_from_bits-result : goal.float_from_bits-result
float_from_bits-result c = bits-no-nan _ (omega arith)

pub returns : goal.returns
returns c = faint-over _ _ (subst T (sym c.well_formed.0.1) tt) c.requires.2 c.requires.3 c.requires.0 c.requires.1
