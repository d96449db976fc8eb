use mathlib.Core.Path.{refl}
use Rattle.qr_passes.proofs.GramSchmidtLaws.{step-stop, step-go, step-spent}
use borrow.Author.Rules.{rules}
use Rattle.qr_passes.proofs.orthogonalize.Goals as goal

pub loop-k-init : goal.loop-k-init
loop-k-init c = (search rules, refl, refl, refl)

pub returns-then-residual-previous : goal.returns-then-residual-previous
returns-then-residual-previous c = step-stop _ _ _ _ _ _ _ _ _ c.loop-k.invariant.3 c.loop-k-test.true c.pass-left.ensures c.norm_near-residual.ensures c.if-residual-previous.true

pub loop-k-preserved : goal.loop-k-preserved
loop-k-preserved c = (search rules, search rules, search rules, step-go _ _ _ _ _ _ _ _ _ c.loop-k.invariant.3 c.loop-k-test.true c.pass-left.ensures c.norm_near-residual.ensures c.if-residual-previous.false)

pub shape_of-v : goal.shape_of-v
shape_of-v c = c.loop-k.invariant.1

pub shape_of-r : goal.shape_of-r
shape_of-r c = c.loop-k.invariant.2

pub returns : goal.returns
returns c = step-spent _ _ _ _ _ _ _ _ _ c.loop-k.invariant.3 c.loop-k-test.false
