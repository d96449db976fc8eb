-- `chain_start::check_state` meets its contract: the answer is that of the numbers that are left. Assumes nothing.
use mathlib.Core.Path.{◌≡◌}
use lib.ListN.{drop}
use Rattle.chain_start.specs.Start.{components_for}
use Rattle.chain_start.proofs.check_state.Given as goal

abbrev pub invariant-loop-i : goal.invariant-loop-i
invariant-loop-i l = components_for 190 0 l.s ≡ components_for 190 l.i (drop l.i l.s)
