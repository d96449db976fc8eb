-- `cut_sides::side_refusal` meets its contract: 6 is asked only where the others are the smaller side. Assumes nothing.
use native.Mathlib.Omega.{arith}
use Rattle.answers.proofs.Stopped.{was-done}
use Rattle.cut_sides.proofs.SideLaws.{is-parted}
use Rattle.cut_sides.proofs.side_refusal.Goals as goal

pub overflow_sub-rest : goal.overflow_sub-rest
overflow_sub-rest c = let z = c.args in omega (arith, (is-parted z.list.now z.n z.cap (was-done _ _ c.cut_refusal.ensures c.in_ok-cut_refusal.was)).part)
