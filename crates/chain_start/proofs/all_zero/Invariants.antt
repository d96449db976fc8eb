-- `chain_start::all_zero` meets its contract. The loop's invariant: what is left gives the same answer. Assumes nothing.
use mathlib.Core.Path.{◌≡◌}
use Prim.Native.Nat.{◌≤◌, ◌-◌}
use lib.ListN.{length, drop}
use Rattle.chain_start.specs.Start.{state_zero}
use Rattle.chain_start.proofs.all_zero.Given as goal

abbrev pub invariant-loop-k : goal.invariant-loop-k
invariant-loop-k l = (l.k ≤ length l.s) × (state_zero l.s ≡ state_zero (drop l.k l.s))

abbrev pub decreases-loop-k : goal.decreases-loop-k
decreases-loop-k l = length l.s - l.k
