use mathlib.Core.Path.{refl, ◌∙◌}
use native.Mathlib.Omega.{arith}
use Rattle.density_entries.proofs.BlocksLaws.{reached}
use Rattle.density_diagonal.proofs.CornersLaws.{corner-begin, corner-step, step-alike}
use Rattle.density_diagonal.proofs.corner_sums.Goals as goal

pub loop-init : goal.loop-init
loop-init c = corner-begin _ _ _ _ _ _ _ c.new-zero.result c.new-zero.ensures refl

pub read_cell-x0-requires : goal.read_cell-x0-requires
read_cell-x0-requires c = reached _ _ _ _ _ _ _ _ _ _ c.requires.0 c.loop.invariant.base-is c.requires.0.a0-lt

pub read_cell-x1-requires : goal.read_cell-x1-requires
read_cell-x1-requires c = reached _ _ _ _ _ _ _ _ _ _ c.requires.0 c.loop.invariant.base-is c.requires.0.a1-lt

pub loop-preserved : goal.loop-preserved
loop-preserved c = corner-step _ _ _ _ _ _ _ _ _ _ _ c.requires.0 c.requires.1 c.loop.invariant (omega arith) (c.step-corner.ensures ∙ step-alike _ c.read_cell-x0.ensures c.read_cell-x1.ensures) c.next_submask-base.ensures
