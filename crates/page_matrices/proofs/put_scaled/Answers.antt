-- `page_matrices::put_scaled` meets its contract at each way out.
-- Assumes nothing.
use native.Mathlib.Omega.{arith}
use Rattle.page_matrices.proofs.MatricesLaws.{square-some, scaled-refused, scaled-done, scaled-left}
use Rattle.page_matrices.proofs.put_scaled.Goals as goal

pub put_reply-requires : goal.put_reply-requires
put_reply-requires c = omega (arith, c.requires.fits, square-some c.args.dim c.requires.some)

pub returns-in-Err : goal.returns-in-Err
returns-in-Err c =
    let is = c.normalize_trace.ensures in
    record { puts = scaled-refused _ _ _ _ is _ _ _ _ _ c.in-Err.is c.put_reply.ensures; rho_after = scaled-left _ _ _ _ is }

pub returns-in-Ok : goal.returns-in-Ok
returns-in-Ok c =
    let is = c.normalize_trace.ensures in
    record { puts = scaled-done _ _ _ _ is _ _ _ _ c.in-Ok.is c.put_cells.ensures; rho_after = scaled-left _ _ _ _ is }
