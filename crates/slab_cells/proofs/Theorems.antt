-- What the definitions of the cells mean. Assumes nothing.
use mathlib.Core.Path.{◌≡◌}
use mathlib.Core.Bool.{false}
use mathlib.Core.List.{List, ◌++◌}
use Prim.Native.Nat.{ℕ, ◌+◌, ◌≤◌, ◌<◌}
use lib.ListN.{length, get_or, take, drop}
use lib.Seq.{sets-eq}
use Rattle.slab_sites.specs.Sites.{held}
use Rattle.slab_cells.specs.Cells.{map_of, pasted}
use Rattle.slab_cells.proofs.CellLaws.{map_at}

-- Pasting replaces a part of the list: what stood before it, the data, what stood behind it.
pub pasted-is : (at : ℕ) (given cells : List ℕ) → at + length given ≤ length cells → pasted at given cells ≡ take at cells ++ given ++ drop (at + length given) cells
unfolding pasted
pasted-is at given cells h = sets-eq given cells at h

-- The map says of each cell whether a site holds it.
pub map-says : (index : List ℕ) (skip n c : ℕ) → c < 4096 → get_or (map_of index skip n) c false ≡ held index skip n c
map-says index skip n c h = map_at index skip n c h
