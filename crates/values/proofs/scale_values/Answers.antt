use mathlib.Core.Path.{sym, ◌∙◌}
use Prim.Native.Nat.{◌<◌}
use native.Mathlib.Omega.{arith}
use lib.ListN.{length}
use Rattle.values.proofs.ListLaws.{scaled-end, scaled-more}
use Rattle.values.proofs.scale_values.Goals as goal

pub loop-x-preserved : goal.loop-x-preserved
loop-x-preserved c = let h : c.loop-x.x-index < length c.loop-x.s = omega arith in scaled-more _ _ _ h ∙ c.loop-x.invariant

pub returns : goal.returns
returns c = sym (scaled-end _ _ _ (omega arith)) ∙ c.loop-x.invariant
