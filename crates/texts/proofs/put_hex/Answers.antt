use native.Mathlib.Omega.{arith}
use Rattle.texts.proofs.TextLaws.{hex-none, hex-step, hex-end}
use Rattle.texts.proofs.put_hex.Goals as goal

pub loop-i-init : goal.loop-i-init
loop-i-init c = hex-none _ _ _

pub loop-i-preserved : goal.loop-i-preserved
loop-i-preserved c = hex-step _ _ _ _ _ _ c.requires c.loop-i-test.true c.loop-i.invariant c.digit.ensures

pub returns : goal.returns
returns c = hex-end _ _ _ _ _ (omega arith) c.loop-i.invariant
