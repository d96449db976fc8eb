-- `sites::fill_scaled_vt_data` meets its contract: refused by its sizes, refused after them, or filled. Assumes nothing.
use native.Mathlib.Omega.{arith}
use Rattle.answers.proofs.Stopped.{was-done}
use Rattle.sites.proofs.CallLaws.{rows-done, scaled-vt-ready}
use Rattle.sites.proofs.fill_scaled_vt_data.Goals as goal

pub overflow_mul-width : goal.overflow_mul-width
overflow_mul-width c = let s = rows-done _ _ _ _ (was-done _ _ c.check_rows.ensures c.in_ok-check_rows.was) in omega (arith, s.0)

pub check_scaled_vt-requires : goal.check_scaled_vt-requires
check_scaled_vt-requires c = (rows-done _ _ _ _ (was-done _ _ c.check_rows.ensures c.in_ok-check_rows.was)).1

pub fill_scaled_vt-requires : goal.fill_scaled_vt-requires
fill_scaled_vt-requires c =
    let both = scaled-vt-ready _ _ _ _ _ _ (rows-done _ _ _ _ (was-done _ _ c.check_rows.ensures c.in_ok-check_rows.was)).1 (was-done _ _ c.check_scaled_vt.ensures c.in_ok-check_scaled_vt.was) in
    record { line_ready = both.0; chi_in_bounds = both.1 }
