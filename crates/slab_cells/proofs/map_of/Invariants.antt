-- `slab_cells::map_of` meets its contract. The loop's invariant: the map of the first i sites. Assumes nothing.
use mathlib.Core.Path.{◌≡◌}
use Rattle.slab_cells.specs.Cells.{map_of}
use Rattle.slab_cells.proofs.map_of.Given as goal

abbrev pub invariant-loop-i : goal.invariant-loop-i
invariant-loop-i l = l.map ≡ map_of l.index l.skip l.i
