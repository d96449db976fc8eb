-- `svd_pair::Factors::new_p` meets its contract: the law of a product with a signed zero, and what the callees ensure. Assumes nothing.
use mathlib.Core.Path.{◌∙◌, ap₂}
use Rattle.complex.specs.Arithmetic.{sum_of}
use Rattle.svd_pair.specs.Turns.{new_p}
use Rattle.svd_pair.proofs.ZeroProductsLaws.{times-plus}
use Rattle.svd_pair.proofs.Factors.new_p.Goals as goal

pub returns : goal.returns
unfolding new_p
returns c =
    c.add.ensures ∙ ap₂ sum_of (times-plus _ _ _ c.requires.0.cosine c.requires.1) c.mul.ensures
