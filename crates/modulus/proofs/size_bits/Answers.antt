-- `modulus::size_bits` meets its contract (`Sizes.antt`). Assumes nothing.
use mathlib.Core.Path.{sym, subst}
use lib.Dec.{T}
use Rattle.modulus.proofs.Sizes.{no_nan, size-bits}
use Rattle.modulus.proofs.size_bits.Goals as goal

pub float_to_bits-result : goal.float_to_bits-result
float_to_bits-result c = no_nan _ c.requires

pub returns : goal.returns
returns c = size-bits _ (subst T (sym c.well_formed.0.1) tt) c.requires
