-- `chain_start::lay_state` meets its contract. The invariant: the first y blocks are there. Assumes nothing.
use mathlib.Core.Path.{◌≡◌}
use Prim.Native.Nat.{◌+◌, ◌*◌, ◌^◌}
use Rattle.complex.specs.Cells.{written}
use Rattle.chain_start.specs.Start.{cell_reversed}
use Rattle.chain_start.proofs.lay_state.Given as goal

abbrev pub invariant-loop-y : goal.invariant-loop-y
invariant-loop-y l = l.u ≡ written (l.y * 2 ^ l.low) (cell_reversed l.state (l.low + l.high)) l.initial.u
