use Rattle.cuts.proofs.CutLaws.{column-begin, source_in, column-step}
use Rattle.cuts.proofs.fill_column.Goals as goal

pub loop-j-init : goal.loop-j-init
loop-j-init c = column-begin _ _ _ _ _ _ _ c.requires

pub read_cell-z-requires : goal.read_cell-z-requires
read_cell-z-requires c = source_in _ _ _ _ _ _ _ c.requires _ _ _ c.loop-j.invariant c.loop-j-test.true

pub loop-j-preserved : goal.loop-j-preserved
loop-j-preserved c =
    column-step _ _ _ _ _ _ _ c.requires _ _ _ c.loop-j.invariant c.loop-j-test.true _ _ _
    c.read_cell-z.ensures c.write_cell.ensures c.next_submask-row_bits.ensures
