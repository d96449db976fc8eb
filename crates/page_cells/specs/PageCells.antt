-- The lines of a matrix, as lists of bytes. Assumes nothing.
use Rattle.std.specs.Prelude.{[], List, ◌++◌, ℕ, zero, suc, ◌+◌, ◌*◌, ◌/◌, ◌%◌, ◌≤◌, Float, length}
use Rattle.std.specs.Float.{binary64}
use Rattle.std.specs.Float.Ieee.{to_bits}
use Rattle.complex.specs.Cells.{cell_at}
use Rattle.texts.specs.Text.{item_text}
use Rattle.lines.specs.Lines.{blank}
use Rattle.page_lines.specs.PageLines.{hex_item, bits_line}

-- a word, the row, the column, and the two bit patterns
unfoldable pub cell_line : List ℕ → ℕ → ℕ → ℕ → ℕ → List ℕ
unfolding item_text hex_item bits_line
cell_line word row column re im = item_text word row ++ item_text blank column ++ hex_item blank re ++ bits_line blank im

-- the lines of the m first cells of a matrix of side dim, row after row
unfoldable pub cell_lines : List ℕ → ℕ → ℕ → List Float → List ℕ
unfolding cell_line
cell_lines word dim zero s = []
cell_lines word dim (suc m) s =
    cell_lines word dim m s ++ cell_line word (m / dim) (m % dim) (to_bits binary64 (cell_at s m).re) (to_bits binary64 (cell_at s m).im)

-- what the lines ask: a short word, a matrix of at most 32 rows, and room
pub record Lined (word : List ℕ) (dim : ℕ) (s : List Float) (at room : ℕ) : Type 0 where
  pub short : length word ≤ 8
  pub some : 1 ≤ dim
  pub small : dim ≤ 32
  pub cells : 2 * (dim * dim) ≤ length s
  pub fits : at + 48 * (dim * dim) + 40 ≤ room
