use native.Mathlib.Omega.{arith}
use Rattle.lines.proofs.LineLaws.{values-none, length-values, values-step}
use Rattle.lines.proofs.put_values.Goals as goal

pub loop-rank-init : goal.loop-rank-init
loop-rank-init c = values-none _ _ _

pub put_value-next-requires : goal.put_value-next-requires
put_value-next-requires c = omega (arith, length-values c.loop-rank.rank c.args.values.now)

pub loop-rank-preserved : goal.loop-rank-preserved
loop-rank-preserved c = values-step _ _ _ _ _ _ _ _ _ (omega arith) c.bits_of.ensures c.loop-rank.invariant c.put_value-next.ensures
