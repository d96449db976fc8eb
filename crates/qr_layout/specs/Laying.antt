-- Columns that are held as planes are turned into cells in their place, one after the other. Assumes nothing.
use Rattle.std.specs.Prelude.{List, ℕ, zero, suc, ◌+◌, Float}
use Rattle.complex.specs.Cells.{cell_at, set_cell}

-- n cells of v from the cell o on
unfoldable pub placed_into : List Float → List Float → ℕ → ℕ → List Float
placed_into v q o zero = q
placed_into v q o (suc n) = set_cell (placed_into v q o n) (o + n) (cell_at v n)
