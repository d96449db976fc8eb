-- A matrix whose cells stand side by side, seen as planes: a cell is read and set alike in both. Assumes nothing.
use Rattle.std.specs.Prelude.{List, ℕ, Float}
use Rattle.complex.specs.Cells.{cell_at}
use Rattle.svd_load.specs.Loading.{planes_of}

-- the planes of c cells that stand side by side
unfoldable pub as_planes : ℕ → List Float → List Float
as_planes c xs = planes_of c (cell_at xs)
