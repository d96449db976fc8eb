use native.Mathlib.Omega.{arith}
use Rattle.density_entries.proofs.FilledLaws.{lower-step}
use Rattle.density_rows.proofs.fill_rows.Goals as goal

pub loop-t-preserved : goal.loop-t-preserved
loop-t-preserved c = lower-step _ _ _ _ _ _ c.loop-t.invariant (omega (arith, c.requires.square.1)) c.fill_pair.ensures
