-- `svd_sweeps::settle` meets its contract: the sweeps, and V catches up. Assumes nothing.
use Rattle.svd_sweeps.proofs.SweepingLaws.{v-kept}
use Rattle.svd_sweeps.proofs.LateLaws.{caught-state}
use Rattle.svd_sweeps.proofs.settle.Goals as goal

pub catch_up-requires : goal.catch_up-requires
catch_up-requires c =
    let start = c.requires in
    let swept = c.sweep_all-w in
    (v-kept swept.auto.v start.v, start.columns, swept.ensures.waiting)

pub returns : goal.returns
returns c = caught-state _ _ _ _ _ c.catch_up.ensures c.sweep_all-w.ensures.done
