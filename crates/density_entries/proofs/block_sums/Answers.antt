use native.Mathlib.Omega.{arith}
use mathlib.Core.Path.{refl, ◌∙◌}
use Rattle.density_entries.proofs.BlocksLaws.{sums-begin, sums-step, sums-end, reached, step_same}
use Rattle.density_entries.proofs.block_sums.Goals as goal

pub loop-init : goal.loop-init
loop-init c = sums-begin _ _ _ _ _ _ _ _ _ c.new-zero.result c.new-zero.ensures refl

pub read_cell-x0-requires : goal.read_cell-x0-requires
read_cell-x0-requires c = reached _ _ _ _ _ _ _ _ _ _ c.requires c.loop.invariant.base-is c.requires.a0-lt

pub read_cell-x1-requires : goal.read_cell-x1-requires
read_cell-x1-requires c = reached _ _ _ _ _ _ _ _ _ _ c.requires c.loop.invariant.base-is c.requires.a1-lt

pub read_cell-y0-requires : goal.read_cell-y0-requires
read_cell-y0-requires c = reached _ _ _ _ _ _ _ _ _ _ c.requires c.loop.invariant.base-is c.requires.b0-lt

pub read_cell-y1-requires : goal.read_cell-y1-requires
read_cell-y1-requires c = reached _ _ _ _ _ _ _ _ _ _ c.requires c.loop.invariant.base-is c.requires.b1-lt

pub loop-preserved : goal.loop-preserved
loop-preserved c = sums-step _ _ _ _ _ _ _ _ _ _ _ _ _ c.requires c.loop.invariant (omega arith) (c.step-block.ensures ∙ step_same _ c.read_cell-x0.ensures c.read_cell-x1.ensures c.read_cell-y0.ensures c.read_cell-y1.ensures) c.next_submask-base.ensures

pub returns : goal.returns
returns c = sums-end _ _ _ _ _ _ _ _ _ _ _ c.loop.invariant (omega arith)
