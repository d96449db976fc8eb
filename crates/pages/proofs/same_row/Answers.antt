use mathlib.Core.Bool.{Bool, ◌&&◌}
use mathlib.Core.Path.{refl, sym, ap, ap₂, ◌∙◌}
use Rattle.density_entries.specs.Filled.{table_entry}
use Rattle.pages.specs.Blocks.{same_block, block_at}
use Rattle.pages.proofs.BlocksLaws.{row-none, row_more}
use Rattle.pages.proofs.same_row.Goals as goal
use Rattle.pages.proofs.same_row.Goals.{then-yes, else-yes}

pub loop-u-init : goal.loop-u-init
loop-u-init c = row-none _ _ _

pub loop-u-preserved : goal.loop-u-preserved
loop-u-preserved c =
    let z = c.args in
    let f = table_entry z.n z.state.now z.rest z.groups z.offsets.now in
    let g = table_entry z.n z.matrix.now z.mask z.groups z.table.now in
    let same = same_block (block_at f z.t c.loop-u.u) (block_at g z.t c.loop-u.u) in
    row_more f g z.t c.loop-u.u c.loop-u.yes _ same c.loop-u.invariant refl
    (elim c.if-yes.branch [
      | then-yes w ↦
          w.yes-is ∙ w.same_block-yes.ensures ∙ ap₂ same_block c.block_at-a.ensures c.block_at-b.ensures ∙ sym (ap (λ (b : Bool). b && same) w.if-yes.true)
      | else-yes w ↦ w.yes-is ∙ w.if-yes.false ∙ sym (ap (λ (b : Bool). b && same) w.if-yes.false)
    ])
