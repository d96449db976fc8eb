-- `chain_start::lay_block` meets its contract. The invariant: the first x cells of the block are there. Assumes nothing.
use mathlib.Core.Path.{◌≡◌}
use mathlib.Core.List.{List}
use Prim.Native.Nat.{◌+◌, ◌*◌, ◌^◌}
use lib.ListN.{length}
use lib.Ieee.{Float}
use Rattle.complex.specs.Cells.{written}
use Rattle.chain_start.specs.Start.{cell_reversed}
use Rattle.chain_start.proofs.lay_block.Given as goal

abbrev pub invariant-loop-x : goal.invariant-loop-x
invariant-loop-x l =
    (old : List Float) → length old ≡ 2 * 2 ^ (l.low + l.high) → l.initial.u ≡ written (l.y * 2 ^ l.low) (cell_reversed l.state (l.low + l.high)) old
    → l.u ≡ written (l.y * 2 ^ l.low + l.x) (cell_reversed l.state (l.low + l.high)) old
