-- A column of `rows` cells as a list: taken out of a matrix, measured, lessened by a multiple of another, scaled into a matrix.
-- Assumes nothing.
use Rattle.std.specs.Prelude.{List, ℕ, zero, suc, ◌+◌, Float}
use Rattle.numbers.specs.Root.{sqrt_of}
use Rattle.complex.specs.declared.Complex.{Complex}
use Rattle.complex.specs.Arithmetic.{product, difference, scaled}
use Rattle.complex.specs.Cells.{cell_at, set_cell, cells_of}
use Rattle.complex.specs.Squares.{squares_to}

-- the cells of a from the cell o on
unfoldable pub cell_from : List Float → ℕ → ℕ → Complex
cell_from a o t = cell_at a (o + t)

-- the column of a that starts at the cell o
unfoldable pub column_of : List Float → ℕ → ℕ → List Float
unfolding cell_from
column_of a o rows = cells_of rows (cell_from a o)

-- the root of the sum of the squared moduli of the first rows
unfoldable pub norm_of : List Float → ℕ → Float
unfolding squares_to
norm_of v rows = sqrt_of (squares_to (cell_at v) rows)

-- row t of v less d times row t of the column of q that starts at the cell o
unfoldable pub less_cell : List Float → List Float → ℕ → Complex → ℕ → Complex
less_cell v q o d t = difference (cell_at v t) (product d (cell_at q (o + t)))

unfoldable pub lessened : List Float → List Float → ℕ → ℕ → Complex → List Float
unfolding less_cell
lessened v q o rows d = cells_of rows (less_cell v q o d)

-- the first n cells from the cell o on become v's, times the real number k
unfoldable pub scaled_into : List Float → Float → List Float → ℕ → ℕ → List Float
scaled_into v k q o zero = q
scaled_into v k q o (suc n) = set_cell (scaled_into v k q o n) (o + n) (scaled (cell_at v n) k)
