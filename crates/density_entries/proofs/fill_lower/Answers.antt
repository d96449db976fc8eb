use native.Mathlib.Omega.{arith}
use Rattle.density_entries.proofs.FilledLaws.{lower-step}
use Rattle.density_entries.proofs.fill_lower.Goals as goal

pub loop-t-preserved : goal.loop-t-preserved
loop-t-preserved c = lower-step _ _ _ _ _ _ c.loop-t.invariant (omega (arith, c.requires.entries_ready.even)) c.fill_row_pair.ensures
