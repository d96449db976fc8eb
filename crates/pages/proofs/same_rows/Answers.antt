use mathlib.Core.Bool.{Bool, ◌&&◌}
use mathlib.Core.Path.{refl, sym, ap, ◌∙◌}
use Prim.Native.Nat.{◌+◌}
use Rattle.density_entries.specs.Filled.{table_entry}
use Rattle.pages.specs.Blocks.{same_row}
use Rattle.pages.proofs.BlocksLaws.{rows_none, rows_more}
use Rattle.pages.proofs.same_rows.Goals as goal
use Rattle.pages.proofs.same_rows.Goals.{then-yes, else-yes}

pub loop-t-init : goal.loop-t-init
loop-t-init c = rows_none _ _

pub loop-t-preserved : goal.loop-t-preserved
loop-t-preserved c =
    let z = c.args in
    let f = table_entry z.n z.state.now z.rest z.groups z.offsets.now in
    let g = table_entry z.n z.matrix.now z.mask z.groups z.table.now in
    let same = same_row f g c.loop-t.t (c.loop-t.t + 1) in
    rows_more f g c.loop-t.t c.loop-t.yes _ same c.loop-t.invariant refl
    (elim c.if-yes.branch [
      | then-yes w ↦ w.yes-is ∙ w.same_row-yes.ensures ∙ sym (ap (λ (b : Bool). b && same) w.if-yes.true)
      | else-yes w ↦ w.yes-is ∙ w.if-yes.false ∙ sym (ap (λ (b : Bool). b && same) w.if-yes.false)
    ])
