use mathlib.Core.Path.{◌≡◌}
use Rattle.chain_walk.specs.Chain.{room_to}
use Rattle.chain_room.proofs.room_of.Given as goal

abbrev pub invariant-loop-j : goal.invariant-loop-j
invariant-loop-j l = l.room ≡ room_to l.n l.limit l.j
