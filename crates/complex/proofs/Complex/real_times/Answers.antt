-- `complex::Complex::real_times` meets its contract: it is its definition. Assumes nothing.
use mathlib.Core.Path.{refl}
use Rattle.complex.specs.Arithmetic.{times_real}
use Rattle.complex.proofs.Complex.real_times.Goals as goal

pub returns : goal.returns
unfolding times_real
returns c = refl
