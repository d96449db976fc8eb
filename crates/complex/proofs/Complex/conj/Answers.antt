-- `complex::Complex::conj` meets its contract: it is its definition. Assumes nothing.
use mathlib.Core.Path.{refl}
use Rattle.complex.specs.Arithmetic.{conjugate}
use Rattle.complex.proofs.Complex.conj.Goals as goal

pub returns : goal.returns
unfolding conjugate
returns c = refl
