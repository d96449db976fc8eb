-- Two rows of a density from the blocks left of the diagonal and the three entries of the diagonal block. Assumes nothing.
use Rattle.std.specs.Prelude.{List, ℕ, ◌+◌, ◌*◌, Float}
use Rattle.complex.specs.declared.Complex.{Complex}
use Rattle.complex.specs.Arithmetic.{complex_of}
use Rattle.complex.specs.Cells.{set_cell}
use Rattle.density_entries.specs.Pairs.{set_pair}

-- the entries of the diagonal block of the rows 2t and 2t + 1, but for the one above the diagonal
unfoldable pub corner_set : (ℕ → ℕ → Complex) → ℕ → ℕ → List Float → List Float
corner_set f dim t s =
    set_pair (set_cell s (2 * t * dim + 2 * t) (f (2 * t) (2 * t))) dim (2 * t + 1) (2 * t) (f (2 * t + 1) (2 * t)) (f (2 * t + 1) (2 * t + 1))

-- the same, with both real parts above the diagonal, where the mirror writes last
unfoldable pub corner_filled : (ℕ → ℕ → Complex) → ℕ → ℕ → List Float → List Float
corner_filled f dim t s = set_cell (corner_set f dim t s) (2 * t * dim + (2 * t + 1)) (complex_of (f (2 * t) (2 * t)).re (f (2 * t + 1) (2 * t + 1)).re)
