use mathlib.Core.Path.{ap₂, ◌∙◌}
use mathlib.Core.List.{List}
use native.Mathlib.Omega.{arith}
use lib.Ieee.{Float}
use lib.ListN.{set}
use Rattle.cutfile.proofs.LayoutLaws.{of_parts}
use Rattle.tables.proofs.TablesLaws.{filled_more}
use Rattle.decode.proofs.decode_state.Goals as goal

pub loop-j-preserved : goal.loop-j-preserved
loop-j-preserved c = ap₂ (λ (o : List Float) (v : Float). set o c.loop-j.j v) c.loop-j.invariant (of_parts _ _ _ _ _ c.amplitude_bits-bits.ensures c.component_of.ensures) ∙ filled_more _ _ _ (omega arith)
