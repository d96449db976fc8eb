use Rattle.density_rows.proofs.RowSumsLaws.{sums-begin, sums-step}
use Rattle.density_rows.proofs.pair_sums.Goals as goal

pub loop-e-init : goal.loop-e-init
loop-e-init c = sums-begin _ _ _ _ _ c.requires.planes_len.2 c.requires.r_bound.2

pub loop-e-preserved : goal.loop-e-preserved
loop-e-preserved c = sums-step _ _ _ _ _ _ _ c.loop-e.invariant c.add_terms.ensures
