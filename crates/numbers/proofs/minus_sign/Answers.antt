-- `numbers::minus_sign` meets its contract: the sign is the top bit of the pattern. Assumes nothing.
use mathlib.Core.Path.{sym, subst}
use lib.Dec.{T}
use Rattle.numbers.proofs.Helpers.{nan-no-sign, number, sign_bit}
use Rattle.numbers.proofs.minus_sign.Goals as goal

pub float_to_bits-result : goal.float_to_bits-result
float_to_bits-result c = number _ c.if-x.true

pub returns-then-x : goal.returns-then-x
returns-then-x c = sign_bit _ (subst T (sym c.well_formed.0.1) tt) (number _ c.if-x.true)

pub returns-else-x : goal.returns-else-x
returns-else-x c = nan-no-sign _ c.if-x.false
