-- `qr::check` meets its contract: a matrix whose sizes are not refused has few cells. Assumes nothing.
use Rattle.answers.proofs.Stopped.{was-done}
use Rattle.matrix_sizes.proofs.SizesLaws.{size-done}
use Rattle.qr.proofs.check.Goals as goal

pub check_lengths-requires : goal.check_lengths-requires
check_lengths-requires c = size-done _ _ (was-done _ _ c.check_sizes.ensures c.in_ok-check_sizes.was)
