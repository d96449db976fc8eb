-- `svd_sweeps::catch_up` meets its contract: the turn is made where V waits for one. Assumes nothing.
use Rattle.svd_sweeps.proofs.LateLaws.{caught-waiting, caught-none, waiting-columns}
use Rattle.svd_sweeps.proofs.catch_up.Goals as goal

pub turn_v-requires : goal.turn_v-requires
turn_v-requires c =
    let start = c.requires in
    let columns = waiting-columns _ _ _ start.2 c.in-Some.is in
    (start.0, start.1, columns.0, columns.1)

pub returns-in-Some : goal.returns-in-Some
returns-in-Some c = caught-waiting _ _ c.args.w _ c.in-Some.is c.turn_v.ensures

pub returns-in_default : goal.returns-in_default
returns-in_default c = caught-none _ _ c.args.w _ c.in_default.is
