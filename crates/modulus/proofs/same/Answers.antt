-- `modulus::same` meets its contract: a float that is no NaN is what its bits say. Assumes nothing.
use mathlib.Core.Path.{sym, ap, subst, ◌∙◌}
use borrow.Author.Tests.{eqb-true}
use lib.Dec.{T}
use lib.Ieee.{binary64, fits, of_bits}
use lib.Ieee.Bits.{of_bits-to_bits}
use Rattle.numbers.proofs.Cases.{no_nan}
use Rattle.modulus.proofs.same.Goals as goal

pub float_to_bits-result : goal.float_to_bits-result
float_to_bits-result c = no_nan _ c.if-x.false

pub float_to_bits-result-2 : goal.float_to_bits-result-2
float_to_bits-result-2 c = no_nan _ c.if-y.false

pub returns : goal.returns
returns c =
    let held_x : T (fits binary64 c.args.x) = subst T (sym c.well_formed.0.1) tt in
    let held-y : T (fits binary64 c.args.y) = subst T (sym c.well_formed.1.0.1) tt in
    let start = c.before.before in
    λ h. sym (of_bits-to_bits binary64 _ (held_x)) ∙ ap (of_bits binary64) (eqb-true _ _ h) ∙ of_bits-to_bits binary64 _ (held-y)
