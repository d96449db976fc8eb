use native.Mathlib.Omega.{arith}
use Rattle.profile_checks.proofs.CheckLaws.{room-none, term_few, sum-few, room-more}
use Rattle.profile_checks.proofs.values_room.Goals as goal

pub loop-j-init : goal.loop-j-init
loop-j-init c = room-none c.args.n

pub bit-room-requires : goal.bit-room-requires
bit-room-requires c = omega (arith, c.min.ensures, c.requires.1)

pub overflow_add-room : goal.overflow_add-room
overflow_add-room c =
    omega (arith, sum-few c.args.n _ c.requires.1 (omega arith) c.loop-j.invariant, term_few c.args.n _ c.requires.1 (omega arith) c.min.ensures c.bit-room.ensures)

pub loop-j-preserved : goal.loop-j-preserved
loop-j-preserved c = room-more c.args.n _ (omega arith) c.loop-j.invariant c.min.ensures c.bit-room.ensures
