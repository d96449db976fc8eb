-- `density_block::block_index` meets its contract. The loop's invariant: the index of the positions passed, from the last down. Assumes nothing.
use mathlib.Core.Path.{◌≡◌}
use Prim.Native.Nat.{◌<◌}
use lib.ListN.{drop}
use Rattle.density_block.specs.Factor.{block_index}
use Rattle.density_block.proofs.block_index.Given as goal

abbrev pub invariant-loop-j : goal.invariant-loop-j
invariant-loop-j l = (l.index ≡ block_index (drop l.j l.positions) l.t) × (l.index < 64)
