-- `modulus::modulus_near` meets its contract: a case of the definition for each way out. Assumes nothing.
use mathlib.Core.Path.{sym, ap, ◌∙◌}
use Rattle.numbers.specs.Root.{sqrt_of}
use Rattle.modulus.proofs.Ways.{parts-finite, at-finite, at_other}
use Rattle.modulus.proofs.modulus_near.Goals as goal

pub scaled-requires : goal.scaled-requires
scaled-requires c = parts-finite c.args.z (sym c.both_finite.ensures ∙ c.if-both_finite.true)

pub returns-then-both_finite : goal.returns-then-both_finite
returns-then-both_finite c = c.scaled.ensures ∙ at-finite _ (sym c.both_finite.ensures ∙ c.if-both_finite.true)

pub returns : goal.returns
returns c =
    c.root_near.ensures ∙ ap sqrt_of c.norm_sqr.ensures
    ∙ at_other _ (sym c.both_finite.ensures ∙ c.if-both_finite.false)
