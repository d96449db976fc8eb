use Rattle.lots.proofs.LotLaws.{copy-begins, copy-inside, copy-room, copy_more, copy-ends}
use native.Mathlib.Omega.{arith}
use borrow.Author.Rules.{rules}
use Rattle.lots.proofs.read_file.Goals as goal

pub loop-i-init : goal.loop-i-init
loop-i-init c = copy-begins _ _ _ _ _ (search rules) (omega arith)

pub overflow_add-room : goal.overflow_add-room
overflow_add-room c = let h = copy-inside _ _ _ _ _ _ c.loop-i.invariant c.loop-i-test.true in search rules

pub bounds-lot-from : goal.bounds-lot-from
bounds-lot-from c = copy-inside _ _ _ _ _ _ c.loop-i.invariant c.loop-i-test.true

pub bounds-room-i : goal.bounds-room-i
bounds-room-i c = copy-room _ _ _ _ _ _ c.loop-i.invariant c.loop-i-test.true

pub loop-i-preserved : goal.loop-i-preserved
loop-i-preserved c = copy_more _ _ _ _ _ _ c.loop-i.invariant c.loop-i-test.true

pub shape_of-room : goal.shape_of-room
shape_of-room c = omega (arith, c.loop-i.invariant.long, c.requires)

pub returns : goal.returns
returns c = copy-ends _ _ _ _ _ _ c.loop-i.invariant c.loop-i-test.false
