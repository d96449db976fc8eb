-- `sites::fill_vt_site_data` meets its contract: refused by its sizes, refused after them, or filled. Assumes nothing.
use native.Mathlib.Omega.{arith}
use Rattle.answers.proofs.Stopped.{was-done}
use Rattle.sites.proofs.CallLaws.{rows-done, plain_ready}
use Rattle.sites.proofs.fill_vt_site_data.Goals as goal

pub overflow_mul-width : goal.overflow_mul-width
overflow_mul-width c = let s = rows-done _ _ _ _ (was-done _ _ c.check_rows.ensures c.in_ok-check_rows.was) in omega (arith, s.0)

pub check_plain-requires : goal.check_plain-requires
check_plain-requires c = (rows-done _ _ _ _ (was-done _ _ c.check_rows.ensures c.in_ok-check_rows.was)).1

pub fill_vt-requires : goal.fill_vt-requires
fill_vt-requires c = plain_ready _ _ _ _ _ (rows-done _ _ _ _ (was-done _ _ c.check_rows.ensures c.in_ok-check_rows.was)).1 (was-done _ _ c.check_plain.ensures c.in_ok-check_plain.was)
