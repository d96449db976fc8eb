use mathlib.Core.Path.{sym, ◌∙◌}
use native.Mathlib.Omega.{arith}
use Rattle.stable_order.proofs.PushLaws.{push_at-more, push_at-done}
use Rattle.stable_order.proofs.insert_at.Goals as goal

pub loop-i-preserved : goal.loop-i-preserved
loop-i-preserved c = push_at-more _ _ _ _ (omega arith) ∙ c.loop-i.invariant

pub returns : goal.returns
returns c = sym (push_at-done _ _ _ (omega arith)) ∙ c.loop-i.invariant
