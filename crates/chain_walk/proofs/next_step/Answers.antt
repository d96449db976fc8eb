use mathlib.Core.Path.{refl}
use native.Mathlib.Omega.{arith}
use borrow.Author.Rules.{rules}
use Rattle.chain_walk.proofs.NextLaws.{rank_room, next-taken}
use Rattle.chain_walk.proofs.next_step.Goals as goal

pub overflow_mul-end-2 : goal.overflow_mul-end-2
overflow_mul-end-2 c = omega (arith, rank_room _ _ _ _ _ _ _ _ c.in_ok-link.link c.requires.room.bond-some c.in_ok-link.ensures c.requires.room)

pub overflow_add-end : goal.overflow_add-end
overflow_add-end c = omega (arith, rank_room _ _ _ _ _ _ _ _ c.in_ok-link.link c.requires.room.bond-some c.in_ok-link.ensures c.requires.room)

pub returns : goal.returns
returns c = next-taken _ _ _ _ _ _ _ _ c.in_ok-link.link c.requires.room.bond-some c.in_ok-link.ensures _ _ _ _ (search rules) refl c.put_sweeps.ensures
