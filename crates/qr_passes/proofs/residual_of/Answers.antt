-- `qr_passes::residual_of` meets its contract: without a basis column a pass changes nothing. Assumes nothing.
use Rattle.qr_passes.proofs.GramSchmidtLaws.{first-stop}
use Rattle.qr_passes.proofs.residual_of.Goals as goal

pub returns-then-norm : goal.returns-then-norm
returns-then-norm c = first-stop _ _ _ _ _ _ _ c.if-rank-eq0.true c.requires.norm_value c.if-norm.true
