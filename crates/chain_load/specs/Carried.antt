-- The work matrix of a step, by the rows that are carried. Definitions only.
use Rattle.std.specs.Prelude.{cond, List, ℕ, ◌+◌, ◌*◌, ◌/◌, ◌%◌, ltb, Float}
use Rattle.complex.specs.declared.Complex.{Complex}
use Rattle.complex.specs.Arithmetic.{conjugate}
use Rattle.complex.specs.Cells.{cell_at}
use Rattle.svd_load.specs.Loading.{planes_of}

-- the cells as they stand, conjugated
unfoldable pub conjugated_at : List Float → ℕ → Complex
conjugated_at carried i = conjugate (cell_at carried i)

-- column after column: the cell i stands in row i % rows of column i / rows
unfoldable pub across_at : List Float → ℕ → ℕ → ℕ → Complex
across_at carried columns rows i = cell_at carried (i % rows * columns + i / rows)

-- of a wide matrix the conjugate transpose, whose columns are the carried rows
unfoldable pub carried_work : List Float → ℕ → ℕ → List Float
carried_work carried rows columns =
    cond (ltb rows columns) (planes_of (rows * columns) (conjugated_at carried)) (planes_of (columns * rows) (across_at carried columns rows))
