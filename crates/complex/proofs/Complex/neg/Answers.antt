-- `complex::Complex::neg` meets its contract: it is its definition. Assumes nothing.
use mathlib.Core.Path.{refl}
use Rattle.complex.specs.Arithmetic.{negation}
use Rattle.complex.proofs.Complex.neg.Goals as goal

pub returns : goal.returns
unfolding negation
returns c = refl
