use native.Mathlib.Omega.{arith}
use Rattle.density_diagonal.proofs.CornerRowsLaws.{corner-lower}
use Rattle.density_diagonal.proofs.fill_blocks.Goals as goal

pub loop-t-preserved : goal.loop-t-preserved
loop-t-preserved c = corner-lower _ _ _ _ _ _ c.requires.square (omega (arith, c.requires.entries_ready.0.even)) c.loop-t.invariant c.fill_left.ensures _ c.fill_corner.ensures
