-- `cut_sides::smaller_side` meets its contract: the others are written only where they are the smaller side. Assumes nothing.
use native.Mathlib.Omega.{arith}
use Rattle.answers.proofs.Stopped.{was-done}
use Rattle.qubits.proofs.OtherLaws.{others-length}
use Rattle.cut_sides.proofs.SideLaws.{side-parted, room-done}
use Rattle.cut_sides.proofs.smaller_side.Goals as goal

pub overflow_sub-n : goal.overflow_sub-n
overflow_sub-n c = let z = c.args in omega (arith, (side-parted z.list.now z.n z.cap _ (was-done _ _ c.side_refusal.ensures c.in_ok-side_refusal.was)).part)

pub write_others-requires : goal.write_others-requires
write_others-requires c =
    let z = c.args in
    let p = room-done z.list.now z.n z.cap _ (was-done _ _ c.side_refusal.ensures c.in_ok-side_refusal.was) c.if-n-k.true in
    (p.0.listed.small, omega (arith, others-length c.args.n c.args.list.now p.0.listed, p.1))
