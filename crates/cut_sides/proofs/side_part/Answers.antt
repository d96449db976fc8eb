-- `cut_sides::side_part` meets its contract. Assumes nothing.
use native.Mathlib.Omega.{arith}
use Rattle.answers.proofs.Stopped.{was-done}
use Rattle.cut_sides.proofs.SideLaws.{side-parted}
use Rattle.cut_sides.proofs.side_part.Goals as goal

pub overflow_sub-rest : goal.overflow_sub-rest
overflow_sub-rest c = let z = c.args in omega (arith, (side-parted z.list.now z.n z.cap _ (was-done _ _ c.side_refusal.ensures c.in-Ok.is)).part)
