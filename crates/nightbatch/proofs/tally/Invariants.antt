-- `nightbatch::tally` meets its contract. Assumes nothing.
use Rattle.lot_tallies.specs.Tallies.{Tallied}
use lib.ListN.{length}
use Prim.Native.Nat.{◌+◌, ◌*◌, ◌≤◌}
use mathlib.Core.Path.{◌≡◌}
use Rattle.nightbatch.proofs.tally.Given as goal

abbrev pub invariant-loop-i : goal.invariant-loop-i
invariant-loop-i g l = (length l.room ≡ 8480) × (l.from ≤ 4004 + 4294967296 * l.i) × Tallied l.sheet l.i
