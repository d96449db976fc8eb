-- `complex::Complex::add_term` meets its contract: `conjugate-product`. Assumes nothing.
use mathlib.Core.Path.{ap}
use Rattle.complex.specs.Arithmetic.{sum_of}
use Rattle.complex.proofs.ConjugateProduct.{conjugate_product, conjugate-product}
use Rattle.complex.proofs.Complex.add_term.Goals as goal

pub returns : goal.returns
unfolding sum_of conjugate_product
returns c = ap (sum_of c.args.self) (conjugate-product c.args.a c.args.b)
