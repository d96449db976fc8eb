-- `density_recount::density_from_cut` meets its contract. Assumes nothing.
use Rattle.answers.proofs.Stopped.{was-done}
use Rattle.density_recount.proofs.RecountLaws.{recount-accepted}
use Rattle.density_recount.proofs.density_from_cut.Goals as goal

pub sum_from_cut-requires : goal.sum_from_cut-requires
sum_from_cut-requires c =
    let z = c.args in
    recount-accepted z.matrix.now z.n z.list.now z.cap _ (was-done _ _ c.recount_answer.ensures c.in_ok-recount_answer.was)
