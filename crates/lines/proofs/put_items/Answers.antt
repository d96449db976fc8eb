use native.Mathlib.Omega.{arith}
use Rattle.lines.proofs.LineLaws.{items-none, length-items, items-step}
use Rattle.lines.proofs.put_items.Goals as goal

pub loop-n-init : goal.loop-n-init
loop-n-init c = items-none _ _ _

pub put_item-next-requires : goal.put_item-next-requires
put_item-next-requires c = omega (arith, length-items c.loop-n.n-index c.args.list.now)

pub loop-n-preserved : goal.loop-n-preserved
loop-n-preserved c = items-step _ _ _ _ _ _ _ _ c.requires c.loop-n-test.true c.loop-n.invariant c.put_item-next.ensures
