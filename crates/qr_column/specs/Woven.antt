-- A column of `rows` cells that is held as planes, read as a list of cells. Assumes nothing.
use Rattle.std.specs.Prelude.{List, ℕ, Float}
use Rattle.complex.specs.Cells.{cells_of}
use Rattle.complex.specs.Planes.{plane_at}

unfoldable pub woven : ℕ → List Float → List Float
unfolding plane_at
woven rows v = cells_of rows (plane_at v rows)
