use Rattle.cuts.proofs.CutLaws.{columns-begin, column-ready, columns-step}
use Rattle.cuts.proofs.fill_cut.Goals as goal

pub loop-init : goal.loop-init
loop-init c = columns-begin _ _ _ _ _ _ _ c.requires

pub fill_column-requires : goal.fill_column-requires
fill_column-requires c = column-ready _ _ _ _ _ _ _ c.requires _ _ _ _ c.loop.invariant c.loop-test.true

pub loop-preserved : goal.loop-preserved
loop-preserved c =
    columns-step _ _ _ _ _ _ _ c.requires _ _ _ _ c.loop.invariant c.loop-test.true _ _ c.fill_column.auto.out
    c.fill_column.ensures c.next_submask-bits.ensures
