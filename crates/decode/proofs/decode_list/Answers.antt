use mathlib.Core.Path.{ap₂, ◌∙◌}
use mathlib.Core.List.{List}
use Prim.Native.Nat.{ℕ}
use native.Mathlib.Omega.{arith}
use lib.ListN.{set}
use Rattle.tables.proofs.TablesLaws.{filled_more}
use Rattle.decode.proofs.decode_list.Goals as goal

pub loop-i-preserved : goal.loop-i-preserved
loop-i-preserved c = ap₂ (λ (o : List ℕ) (v : ℕ). set o c.loop-i.i v) c.loop-i.invariant c.list_entry.ensures ∙ filled_more _ _ _ (omega arith)
