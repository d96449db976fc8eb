use native.Mathlib.Omega.{arith}
use Rattle.chain_room.proofs.RoomLaws.{room-none, most-few, term_few, sum-few, room-more}
use Rattle.chain_room.proofs.room_of.Goals as goal

pub loop-j-init : goal.loop-j-init
loop-j-init c = room-none _ _

pub overflow_mul-room : goal.overflow_mul-room
overflow_mul-room c = omega (arith, c.most_of.ensures, most-few c.args.n c.args.limit c.loop-j.j (omega arith))

pub overflow_mul-room-in-loop-j : goal.overflow_mul-room-in-loop-j
overflow_mul-room-in-loop-j c = omega (arith, term_few c.args.n c.args.limit _ c.requires c.loop-j-test.true c.most_of.ensures c.most_of-in-loop-j.ensures)

pub overflow_add-room : goal.overflow_add-room
overflow_add-room c =
    omega (
      arith,
      sum-few c.args.n c.args.limit _ c.requires c.loop-j-test.true c.loop-j.invariant,
      term_few c.args.n c.args.limit _ c.requires c.loop-j-test.true c.most_of.ensures c.most_of-in-loop-j.ensures,
    )

pub loop-j-preserved : goal.loop-j-preserved
loop-j-preserved c = room-more c.args.n c.args.limit _ c.loop-j.invariant c.most_of.ensures c.most_of-in-loop-j.ensures
