-- `qr::settle` meets its contract: both lists are finite, or both are cleared. Assumes nothing.
use mathlib.Core.Path.{sym, ◌∙◌}
use Rattle.qr.proofs.CallLaws.{settled, cleared}
use Rattle.qr.proofs.settle.Goals as goal

pub returns-then-both_finite : goal.returns-then-both_finite
returns-then-both_finite c = settled _ _ _ (sym c.both_finite.ensures ∙ c.if-both_finite.true)

pub returns : goal.returns
returns c = cleared _ _ _ (sym c.both_finite.ensures ∙ c.if-both_finite.false) c.zero_first.ensures c.zero_first-2.ensures
