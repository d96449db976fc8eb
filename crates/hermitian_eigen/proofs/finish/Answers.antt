-- `hermitian_eigen::finish` meets its contract: all finite, or both lists zero. Assumes nothing.
use mathlib.Core.Path.{refl, sym, ◌∙◌}
use Rattle.hermitian_eigen.proofs.HermitianLaws.{finished-good, finished-bad}
use Rattle.hermitian_eigen.proofs.finish.Goals as goal

pub returns-then-finite_results : goal.returns-then-finite_results
returns-then-finite_results c = finished-good _ _ _ refl (sym c.finite_results.ensures ∙ c.if-finite_results.true)

pub returns : goal.returns
returns c = finished-bad _ _ _ refl (sym c.finite_results.ensures ∙ c.if-finite_results.false) c.zero_first.ensures c.zero_first-2.ensures
