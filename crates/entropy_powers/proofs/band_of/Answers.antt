-- `entropy_powers::band_of` meets its contract: the two cases of the definition, and no sum wraps. Assumes nothing.
use native.Mathlib.Omega.{arith}
use Rattle.entropy_powers.proofs.BandLaws.{made-few}
use Rattle.entropy_powers.proofs.band_of.Goals as goal

pub overflow_add-result : goal.overflow_add-result
overflow_add-result c = omega (arith, c.saturating_sub-between.ensures, c.doublings-over.ensures, made-few _ _ _ c.doublings-over.ensures)
