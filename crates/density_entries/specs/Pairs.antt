-- Rows of a square matrix filled from the left, two entries at a time. Assumes nothing.
use Rattle.std.specs.Prelude.{◌≡◌, List, ℕ, ◌+◌, ◌*◌, ◌<◌, Float}
use Rattle.complex.specs.declared.Complex.{Complex}
use Rattle.complex.specs.Cells.{set_cell}
use Rattle.density_entries.specs.Squares.{entry_at}

-- the entries of row r and the columns c and c + 1 set
unfoldable pub set_pair : List Float → ℕ → ℕ → ℕ → Complex → Complex → List Float
set_pair s dim r c x y = set_cell (set_cell s (r * dim + c) x) (r * dim + c + 1) y

-- the row r is f's, left of column m
pub record RowIs (s : List Float) (dim r m : ℕ) (f : ℕ → Complex) : Type 0 where
  pub at : (c : ℕ) → c < m → entry_at s dim r c ≡ f c
