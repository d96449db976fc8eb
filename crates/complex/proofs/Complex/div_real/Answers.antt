-- `complex::Complex::div_real` meets its contract: it is its definition. Assumes nothing.
use mathlib.Core.Path.{refl}
use Rattle.complex.specs.Arithmetic.{quotient}
use Rattle.complex.proofs.Complex.div_real.Goals as goal

pub returns : goal.returns
unfolding quotient
returns c = refl
