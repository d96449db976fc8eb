-- `svd_pair::Factors::new_q` meets its contract: the law of a product with a signed zero, and what the callees ensure. Assumes nothing.
use mathlib.Core.Path.{◌∙◌, ap₂}
use Rattle.complex.specs.Arithmetic.{sum_of}
use Rattle.svd_pair.specs.Turns.{new_q}
use Rattle.svd_pair.proofs.ZeroProductsLaws.{times-minus}
use Rattle.svd_pair.proofs.Factors.new_q.Goals as goal

pub returns : goal.returns
unfolding new_q
returns c =
    c.add.ensures ∙ ap₂ sum_of (times-minus _ _ _ c.requires.0.sine c.requires.1) c.mul.ensures
