use Rattle.density_rows.proofs.GatheredLaws.{gather-begin, gather-reach, gather-step}
use Rattle.density_rows.proofs.gather.Goals as goal

pub loop-e-init : goal.loop-e-init
loop-e-init c = gather-begin _ _ _ _ _ _ _ c.requires.dim_bound.1

pub gather_one-requires-clause-dim_in_bounds : goal.gather_one-requires-clause-dim_in_bounds
gather_one-requires-clause-dim_in_bounds c = (c.requires.entries_ready.table, λ t h. gather-reach _ _ _ _ _ _ _ _ c.requires.entries_ready c.loop-e.invariant.base-is h)

pub loop-e-preserved : goal.loop-e-preserved
loop-e-preserved c = gather-step _ _ _ _ _ _ _ _ _ _ _ c.requires.entries_ready c.loop-e.invariant c.loop-e-test.true c.gather_one.ensures c.next_submask-base.ensures
