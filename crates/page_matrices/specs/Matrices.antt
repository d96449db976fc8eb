-- The lines of page two's matrices, as lists of bytes. Assumes nothing.
use Rattle.std.specs.Prelude.{Bool, true, false, [], List, ◌∷◌, ◌++◌, ℕ, ◌+◌, ◌*◌, ◌≤◌, Float, length}
use Rattle.std.specs.Float.{binary64}
use Rattle.std.specs.Float.Ieee.{to_bits}
use Rattle.answers.specs.Paper.{if_done}
use Rattle.density_trace.specs.Trace.{trace_of, normalize_answer, normalized}
use Rattle.page_lines.specs.PageLines.{bits_line, said_line, reply_line}
use Rattle.page_cells.specs.PageCells.{cell_lines}

-- the words as bytes: `cell `, `trace `, `kept `, `scaled `, `scaled refused `, `summed`
abbrev pub cell_word : List ℕ
cell_word = 99 ∷ 101 ∷ 108 ∷ 108 ∷ 32 ∷ []

abbrev pub trace_word : List ℕ
trace_word = 116 ∷ 114 ∷ 97 ∷ 99 ∷ 101 ∷ 32 ∷ []

abbrev pub kept_word : List ℕ
kept_word = 107 ∷ 101 ∷ 112 ∷ 116 ∷ 32 ∷ []

abbrev pub scaled_word : List ℕ
scaled_word = 115 ∷ 99 ∷ 97 ∷ 108 ∷ 101 ∷ 100 ∷ 32 ∷ []

abbrev pub scaled_refused_word : List ℕ
scaled_refused_word = 115 ∷ 99 ∷ 97 ∷ 108 ∷ 101 ∷ 100 ∷ 32 ∷ 114 ∷ 101 ∷ 102 ∷ 117 ∷ 115 ∷ 101 ∷ 100 ∷ 32 ∷ []

abbrev pub summed_word : List ℕ
summed_word = 115 ∷ 117 ∷ 109 ∷ 109 ∷ 101 ∷ 100 ∷ []

-- the cells of a matrix row by row, then its trace's bits
unfoldable pub unscaled_text : List Float → ℕ → List ℕ
unfolding cell_lines bits_line
unscaled_text rho dim = cell_lines cell_word dim (dim * dim) rho ++ bits_line trace_word (to_bits binary64 (trace_of rho dim))

-- the total of page one, where that page was not refused
unfoldable pub kept_text : Bool → ℕ → List ℕ
unfolding bits_line
kept_text true bits = bits_line kept_word bits
kept_text false bits = []

-- the cells of the matrix scaled by its trace, or the line of its refusal
unfoldable pub scaled_text : List Float → ℕ → List ℕ
unfolding cell_lines reply_line
scaled_text rho dim =
    if_done (normalize_answer rho dim).0 (cell_lines scaled_word dim (dim * dim) (normalized rho dim)) (reply_line scaled_refused_word (normalize_answer rho dim))

-- what the call that scales leaves
unfoldable pub scaled_at : List Float → ℕ → List Float
scaled_at rho dim = if_done (normalize_answer rho dim).0 (normalized rho dim) rho

-- all of them, in their order
unfoldable pub matrices_text : List Float → ℕ → Bool → ℕ → Bool → List ℕ
unfolding unscaled_text kept_text scaled_text said_line
matrices_text rho dim accepted total same = unscaled_text rho dim ++ kept_text accepted total ++ scaled_text rho dim ++ said_line summed_word same

-- what they ask: a matrix of at most 32 rows, and room
pub record Drawn (dim : ℕ) (s : List Float) (at room : ℕ) : Type 0 where
  pub some : 1 ≤ dim
  pub small : dim ≤ 32
  pub cells : 2 * (dim * dim) ≤ length s
  pub fits : at + 98500 ≤ room
