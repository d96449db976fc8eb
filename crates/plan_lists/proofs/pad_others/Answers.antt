-- `plan_lists::pad_others` meets its contract: the others are no more than twelve. Assumes nothing.
use native.Mathlib.Omega.{arith}
use Rattle.qubits.proofs.OtherLaws.{others-length}
use Rattle.plan_lists.proofs.pad_others.Goals as goal

pub write_others-requires : goal.write_others-requires
write_others-requires c =
    let l = c.requires.listed in
    (l.small, omega (arith, others-length c.args.n c.args.list.now l, l.small))
