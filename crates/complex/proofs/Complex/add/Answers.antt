-- `complex::Complex::add` meets its contract: it is its definition. Assumes nothing.
use mathlib.Core.Path.{refl}
use Rattle.complex.specs.Arithmetic.{sum_of}
use Rattle.complex.proofs.Complex.add.Goals as goal

pub returns : goal.returns
unfolding sum_of
returns c = refl
