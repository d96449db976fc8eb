use mathlib.Core.Path.{ap₂, ◌∙◌}
use mathlib.Core.List.{List}
use Prim.Native.Nat.{ℕ}
use native.Mathlib.Omega.{arith}
use lib.ListN.{set}
use Rattle.tables.proofs.TablesLaws.{filled_none, filled_more}
use Rattle.countersign_shifted.proofs.shift.Goals as goal

pub loop-i-init : goal.loop-i-init
loop-i-init c = filled_none _ _

pub loop-i-preserved : goal.loop-i-preserved
loop-i-preserved c = ap₂ (λ (o : List ℕ) (v : ℕ). set o c.loop-i.i v) c.loop-i.invariant c.shifted_at.ensures ∙ filled_more _ _ _ (omega arith)
