-- `texts::put_decimal` meets its contract. `io::decimal` writes the fewest digits that hold the number, which are `decimal`.
-- Assumes nothing.
use mathlib.Core.Path.{refl, ap}
use lib.ListN.{length}
use native.Mathlib.Omega.{arith}
use Rattle.texts.proofs.TextLaws.{decimal-is, length-decimal, puts-as}
use Rattle.texts.proofs.put_decimal.Goals as goal

pub put_text-requires : goal.put_text-requires
put_text-requires c = omega (arith, ap length (decimal-is _ _ _ _ c.ranges.n.fits refl c.decimal-count.ensures.len c.decimal-count.ensures.digits), length-decimal c.args.n)

pub returns : goal.returns
returns c = puts-as _ _ _ _ _ _ (decimal-is _ _ _ _ c.ranges.n.fits refl c.decimal-count.ensures.len c.decimal-count.ensures.digits) c.put_text.ensures
