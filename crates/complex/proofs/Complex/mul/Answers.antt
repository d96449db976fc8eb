-- `complex::Complex::mul` meets its contract: it is its definition. Assumes nothing.
use mathlib.Core.Path.{refl}
use Rattle.complex.specs.Arithmetic.{product}
use Rattle.complex.proofs.Complex.mul.Goals as goal

pub returns : goal.returns
unfolding product
returns c = refl
