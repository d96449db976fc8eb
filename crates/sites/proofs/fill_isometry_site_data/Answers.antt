-- `sites::fill_isometry_site_data` meets its contract: refused by its sizes, refused after them, or filled. Assumes nothing.
use native.Mathlib.Omega.{arith}
use Rattle.answers.proofs.Stopped.{was-done}
use Rattle.sites.proofs.CallLaws.{columns-done, plain_ready}
use Rattle.sites.proofs.fill_isometry_site_data.Goals as goal

pub overflow_mul-width : goal.overflow_mul-width
overflow_mul-width c = let s = columns-done _ _ _ (was-done _ _ c.check_columns.ensures c.in_ok-check_columns.was) in omega (arith, s.0)

pub check_plain-requires : goal.check_plain-requires
check_plain-requires c = (columns-done _ _ _ (was-done _ _ c.check_columns.ensures c.in_ok-check_columns.was)).1

pub fill_isometry-requires : goal.fill_isometry-requires
fill_isometry-requires c = plain_ready _ _ _ _ _ (columns-done _ _ _ (was-done _ _ c.check_columns.ensures c.in_ok-check_columns.was)).1 (was-done _ _ c.check_plain.ensures c.in_ok-check_plain.was)
