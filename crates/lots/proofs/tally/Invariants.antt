-- `lots::tally` meets its contract. Assumes nothing.
use Rattle.lots.proofs.LotLaws.{Reached}
use lib.ListN.{length}
use mathlib.Core.Path.{◌≡◌}
use Rattle.lots.proofs.tally.Given as goal

abbrev pub invariant-loop-i : goal.invariant-loop-i
invariant-loop-i l = (length l.room ≡ 8480) × Reached l.lot l.i l.from l.sheet
