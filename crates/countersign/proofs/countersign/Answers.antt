-- `countersign::countersign` meets its contract: an accepted call has the sizes that the tests need. Assumes nothing.
use native.Mathlib.Omega.{arith}
use Rattle.answers.proofs.Stopped.{was-done}
use Rattle.countersign.proofs.VerdictLaws.{accepted, few-left, few-right, left-room, right-room}
use Rattle.countersign.proofs.countersign.Goals as goal

pub read_and_judge-requires-clause-accepted : goal.read_and_judge-requires-clause-accepted
read_and_judge-requires-clause-accepted c = accepted _ _ _ _ _ _ (was-done _ _ c.check.ensures c.in_ok-check.was) c.smaller_size-k.ensures

pub read_and_judge-requires-clause-room : goal.read_and_judge-requires-clause-room
read_and_judge-requires-clause-room c =
    let a = accepted _ _ _ _ _ _ (was-done _ _ c.check.ensures c.in_ok-check.was) c.smaller_size-k.ensures in
    (omega arith, few-left _ _ _ _ _ _ _ a c.if-a-le512.true, few-right _ _ _ _ _ _ _ a c.if-a-le512.true)

pub read_and_judge-requires-else-a-le512-clause-accepted : goal.read_and_judge-requires-else-a-le512-clause-accepted
read_and_judge-requires-else-a-le512-clause-accepted c = accepted _ _ _ _ _ _ (was-done _ _ c.check.ensures c.in_ok-check.was) c.smaller_size-k.ensures

pub read_and_judge-requires-else-a-le512-clause-room : goal.read_and_judge-requires-else-a-le512-clause-room
read_and_judge-requires-else-a-le512-clause-room c =
    let a = accepted _ _ _ _ _ _ (was-done _ _ c.check.ensures c.in_ok-check.was) c.smaller_size-k.ensures in
    (omega arith, left-room _ _ _ _ _ _ _ a, right-room _ _ _ _ _ _ _ a)
