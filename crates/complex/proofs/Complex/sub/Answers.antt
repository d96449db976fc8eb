-- `complex::Complex::sub` meets its contract: it is its definition. Assumes nothing.
use mathlib.Core.Path.{refl}
use Rattle.complex.specs.Arithmetic.{difference}
use Rattle.complex.proofs.Complex.sub.Goals as goal

pub returns : goal.returns
unfolding difference
returns c = refl
