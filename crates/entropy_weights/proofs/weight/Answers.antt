-- `entropy_weights::weight` meets its contract: three ranges of exponents. Assumes nothing.
use mathlib.Core.Path.{sym, subst, ◌∙◌}
use lib.Dec.{T}
use lib.Ieee.{binary64, fits}
use Rattle.modulus.proofs.Sizes.{no_nan, size-bits}
use Rattle.entropy_weights.proofs.WeightLaws.{not_finite, bits_below, bits-past, bits-between}
use Rattle.entropy_weights.proofs.weight.Goals as goal
use Rattle.entropy_weights.proofs.weight.Goals.{then-e-lt1011-via-then-e-lt1011, then-e-lt1011-via-else-e-lt1011+then-e-gt1023}

pub returns-then-not-is_finite : goal.returns-then-not-is_finite
returns-then-not-is_finite c = not_finite _ (sym c.is_finite.ensures ∙ c.if-not-is_finite.true)

pub float_to_bits-b : goal.float_to_bits-b
float_to_bits-b c = no_nan _ (sym c.is_finite.ensures ∙ c.if-not-is_finite.false)

pub returns-then-e-lt1011 : goal.returns-then-e-lt1011
returns-then-e-lt1011 c =
    let held : T (fits binary64 c.args.x) = subst T (sym c.well_formed.0.1) tt in
    let bits = size-bits _ held (sym c.is_finite.ensures ∙ c.if-not-is_finite.false) in
    elim c.then-e-lt1011.branch [
      | then-e-lt1011-via-then-e-lt1011 w ↦ bits_below _ _ bits w.if-e-lt1011.true
      | then-e-lt1011-via-else-e-lt1011+then-e-gt1023 w ↦ bits-past _ _ bits w.if-e-gt1023.true
    ]

pub returns : goal.returns
returns c =
    let held : T (fits binary64 c.args.x) = subst T (sym c.well_formed.0.1) tt in
    bits-between _ _ (size-bits _ held (sym c.is_finite.ensures ∙ c.if-not-is_finite.false)) c.if-e-lt1011.false c.if-e-gt1023.false _ c.square_top.ensures
