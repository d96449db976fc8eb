-- `entropy_powers::band_in` meets its contract: the powers of w, and then the band. Assumes nothing.
use mathlib.Core.Path.{sym, subst}
use Rattle.entropy_powers.specs.Powers.{PowersSized}
use Rattle.entropy_powers.proofs.BandLaws.{powers-sized}
use Rattle.entropy_powers.proofs.band_in.Goals as goal

pub band_of-requires : goal.band_of-requires
band_of-requires c = (subst PowersSized (sym c.powers_of.ensures) (powers-sized _ c.requires.0 c.requires.1), c.requires.2)
