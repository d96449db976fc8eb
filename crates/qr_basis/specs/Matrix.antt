-- A matrix whose columns of `rows` cells are each held as planes, one column after the other, read as a list of cells.
-- Assumes nothing.
use Rattle.std.specs.Prelude.{List, ℕ, ◌+◌, ◌*◌, ◌/◌, ◌%◌, Float, length}
use Rattle.complex.specs.declared.Complex.{Complex}
use Rattle.complex.specs.Cells.{cells_of}
use Rattle.complex.specs.Planes.{plane_at}

-- the cell x: row x % rows of the column x / rows
unfoldable pub column_cell : ℕ → List Float → ℕ → Complex
column_cell rows q x = plane_at q rows (2 * (x / rows * rows) + x % rows)

unfoldable pub matrix_of : ℕ → List Float → List Float
matrix_of rows q = cells_of (length q / 2) (column_cell rows q)
