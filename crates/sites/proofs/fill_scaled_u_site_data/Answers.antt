-- `sites::fill_scaled_u_site_data` meets its contract: refused by its sizes, refused after them, or filled. Assumes nothing.
use native.Mathlib.Omega.{arith}
use Rattle.answers.proofs.Stopped.{was-done}
use Rattle.sites.proofs.CallLaws.{columns-done, scaled-u-ready}
use Rattle.sites.proofs.fill_scaled_u_site_data.Goals as goal

pub overflow_mul-width : goal.overflow_mul-width
overflow_mul-width c = let s = columns-done _ _ _ (was-done _ _ c.check_columns.ensures c.in_ok-check_columns.was) in omega (arith, s.0)

pub check_scaled_u-requires : goal.check_scaled_u-requires
check_scaled_u-requires c = (columns-done _ _ _ (was-done _ _ c.check_columns.ensures c.in_ok-check_columns.was)).1

pub fill_scaled_u-requires : goal.fill_scaled_u-requires
fill_scaled_u-requires c =
    let both = scaled-u-ready _ _ _ _ _ _ (columns-done _ _ _ (was-done _ _ c.check_columns.ensures c.in_ok-check_columns.was)).1 (was-done _ _ c.check_scaled_u.ensures c.in_ok-check_scaled_u.was) in
    record { line_ready = both.0; chi_in_bounds = both.1 }
