-- `root_guesses::is_nearest` meets its contract: what `numbers::mended` would leave as it is, is nearest (`Guess.antt`). Assumes nothing.
use Rattle.std.proofs.Common.{arith, ltb-true}
use mathlib.Core.Path.{refl}
use Rattle.numbers.proofs.Mending.{product-fits}
use Rattle.root_guesses.proofs.Guess.{low-square, in-one-test, nearest}
use Rattle.root_guesses.proofs.is_nearest.Goals as goal

pub overflow_mul-hh : goal.overflow_mul-hh
overflow_mul-hh c = record { fits = product-fits _ _ (omega arith) (omega arith) }

pub overflow_mul-hl : goal.overflow_mul-hl
overflow_mul-hl c = record { fits = product-fits _ _ (omega arith) (omega arith) }

pub overflow_mul-ll : goal.overflow_mul-ll
overflow_mul-ll c = record { fits = product-fits _ _ (omega arith) (omega arith) }

pub overflow_sub-v : goal.overflow_sub-v
overflow_sub-v c = omega (arith, low-square _ c.requires.2)

pub returns : goal.returns
returns c = λ h.
    let start = c.requires in
    let told = in-one-test _ _ _ _ start.3 (low-square _ start.2) (omega arith) refl (ltb-true _ _ h) in
    nearest _ _ start.0 start.1 start.2 start.3 c.if-n-hh.false c.if-dd-hl.false told.0 told.1 told.2
