-- `complex::Complex::norm_sqr` meets its contract: it is its definition. Assumes nothing.
use mathlib.Core.Path.{refl}
use Rattle.complex.specs.Arithmetic.{norm_sqr}
use Rattle.complex.proofs.Complex.norm_sqr.Goals as goal

pub returns : goal.returns
unfolding norm_sqr
returns c = refl
