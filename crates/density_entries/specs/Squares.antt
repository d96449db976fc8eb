-- Square matrices, row after row: the entries, and the mirror of the lower half. Assumes nothing.
use Rattle.std.specs.Prelude.{cond, List, ℕ, ◌+◌, ◌*◌, ◌/◌, ◌%◌, ◌≤◌, leb, Float, length}
use Rattle.complex.specs.declared.Complex.{Complex}
use Rattle.complex.specs.Arithmetic.{conjugate}
use Rattle.complex.specs.Cells.{cell_at, written}

-- the entry of row t and column u of a matrix whose lower half is known: above the diagonal the lower entry's conjugate
abbrev pub mirrored_entry : (ℕ → ℕ → Complex) → ℕ → ℕ → Complex
mirrored_entry lower t u = cond (leb u t) (lower t u) (conjugate (lower u t))

-- the k-th cell of a matrix, row after row, from its entries
abbrev pub row_major : ℕ → (ℕ → ℕ → Complex) → ℕ → Complex
row_major dim entry k = entry (k / dim) (k % dim)

-- the entry that the list holds
abbrev pub entry_at : List Float → ℕ → ℕ → ℕ → Complex
entry_at s dim t u = cell_at s (t * dim + u)

abbrev pub mirror_cell : List Float → ℕ → ℕ → Complex
mirror_cell s dim = row_major dim (mirrored_entry (entry_at s dim))

-- a matrix whose lower half s holds, with the upper half its conjugate
abbrev pub mirrored : List Float → ℕ → List Float
mirrored s dim = written (dim * dim) (mirror_cell s dim) s

-- what the inner functions ask of a matrix
pub record Square (dim : ℕ) (s : List Float) : Type 0 where
  pub small : dim ≤ 64
  pub room : 2 * (dim * dim) ≤ length s
