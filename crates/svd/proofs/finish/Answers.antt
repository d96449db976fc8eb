-- `svd::finish` meets its contract: all finite, or all three lists zero. Assumes nothing.
use mathlib.Core.Path.{refl, sym, ◌∙◌}
use Rattle.svd.proofs.SvdLaws.{finished-good, finished-bad}
use Rattle.svd.proofs.finish.Goals as goal

pub returns-then-finite_factors : goal.returns-then-finite_factors
returns-then-finite_factors c = finished-good _ _ _ _ refl (sym c.finite_factors.ensures ∙ c.if-finite_factors.true)

pub returns : goal.returns
returns c = finished-bad _ _ _ _ refl (sym c.finite_factors.ensures ∙ c.if-finite_factors.false) c.zero_first.ensures c.zero_first-2.ensures c.zero_first-3.ensures
