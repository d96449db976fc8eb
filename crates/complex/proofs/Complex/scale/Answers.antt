-- `complex::Complex::scale` meets its contract: it is its definition. Assumes nothing.
use mathlib.Core.Path.{refl}
use Rattle.complex.specs.Arithmetic.{scaled}
use Rattle.complex.proofs.Complex.scale.Goals as goal

pub returns : goal.returns
unfolding scaled
returns c = refl
