use Rattle.lot_lines.proofs.SheetLineLaws.{counts-none, counts-room, counts_step}
use native.Mathlib.Omega.{arith}
use Rattle.lot_lines.proofs.put_counts.Goals as goal

pub loop-i-init : goal.loop-i-init
loop-i-init c = counts-none _ _ _ _ _

pub put_pair_line-next-requires : goal.put_pair_line-next-requires
put_pair_line-next-requires c = let r = counts-room _ _ _ _ _ _ _ _ c.requires.0 c.requires.1 (omega (arith, c.loop-i-test.true)) c.loop-i.invariant in omega (arith, r.0, r.1, c.requires.0, c.requires.1, c.loop-i-test.true)

pub loop-i-preserved : goal.loop-i-preserved
loop-i-preserved c = counts_step _ _ _ _ _ _ _ _ _ _ c.requires.0 c.requires.1 c.loop-i-test.true c.loop-i.invariant c.put_pair_line-next.ensures
