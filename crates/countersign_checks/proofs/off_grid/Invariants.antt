-- `countersign_checks::off_grid` meets its contract: the loop's invariant: the answer is that of the numbers that are
-- left. Assumes nothing.
use mathlib.Core.Path.{◌≡◌}
use lib.ListN.{drop}
use Rattle.countersign_checks.specs.Checks.{off_grid}
use Rattle.countersign_checks.proofs.off_grid.Given as goal

abbrev pub invariant-loop-i : goal.invariant-loop-i
invariant-loop-i l = off_grid l.per 0 l.s ≡ off_grid l.per l.i (drop l.i l.s)
