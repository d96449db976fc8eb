-- `cuts::cut_matrix` meets its contract: 1 to 5 refuse, or the work over the list's sides is the call. Assumes nothing.
use Rattle.answers.proofs.Stopped.{was-done}
use Rattle.cut_sides.proofs.SideLaws.{is-parted}
use Rattle.cuts.proofs.cut_matrix.Goals as goal

pub sides_of-cut-requires : goal.sides_of-cut-requires
sides_of-cut-requires c = is-parted _ _ c.args.cap (was-done _ _ c.cut_refusal.ensures c.in_ok-cut_refusal.was)

pub cut_over-requires : goal.cut_over-requires
cut_over-requires c = record { list = _; parted = is-parted _ _ c.args.cap (was-done _ _ c.cut_refusal.ensures c.in_ok-cut_refusal.was); are = c.sides_of-cut.ensures }
