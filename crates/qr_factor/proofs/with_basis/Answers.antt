-- `qr_factor::with_basis` meets its contract: the two ways are the two cases of `basis_for`. Assumes nothing.
use Rattle.qr_passes.proofs.GramSchmidtLaws.{basis-first, basis-kept}
use Rattle.qr_factor.proofs.with_basis.Goals as goal

pub returns-then-rank-eq0 : goal.returns-then-rank-eq0
returns-then-rank-eq0 c = basis-first _ _ c.if-rank-eq0.true c.new.ensures c.write_cell.ensures

pub returns : goal.returns
returns c = basis-kept _ _ c.if-rank-eq0.false
