-- `countersign_checks::check` meets its contract: the sizes that are taken have few cells. Assumes nothing.
use Rattle.answers.proofs.Stopped.{was-done}
use Rattle.countersign_checks.proofs.CheckLaws.{sizes-done}
use Rattle.countersign_checks.proofs.check.Goals as goal

pub check_lengths-requires : goal.check_lengths-requires
check_lengths-requires c = (sizes-done _ _ (was-done _ _ c.check_sizes.ensures c.in_ok-check_sizes.was)).0.few
