-- `factor_cases::print_band` is safe: the numbers are in range. Assumes nothing.
use native.Mathlib.Omega.{arith}
use mathlib.Core.Path.{sym, subst}
use Rattle.entropy_powers.specs.Powers.{PowersSized}
use Rattle.entropy_powers.proofs.BandLaws.{powers-sized}
use Rattle.factor_cases.proofs.print_band.Goals as goal

pub powers_of-whole-requires : goal.powers_of-whole-requires
powers_of-whole-requires g c = (omega (arith, c.if-w-eq0.false, c.if-all-w.false), omega (arith, c.if-all-gt4294967295.false))

pub band_in-b-requires : goal.band_in-b-requires
band_in-b-requires g c = (omega (arith, c.if-w-eq0.false), omega (arith, c.if-all-w.false, c.if-all-gt4294967295.false), subst PowersSized (sym c.powers_of-whole.ensures) (powers-sized _ (omega (arith, c.if-w-eq0.false, c.if-all-w.false)) (omega (arith, c.if-all-gt4294967295.false))))
