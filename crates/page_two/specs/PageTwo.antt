-- Page two of a state's certificate, past its list. Definitions only.
use Rattle.std.specs.Prelude.{◌≡◌, Bool, List, [], ◌++◌, ℕ, ◌+◌, ◌^◌, ◌≤◌, Float, length}
use Rattle.answers.specs.Paper.{Reply, if_done}
use Rattle.cut_sides.specs.Sides.{cut_refusal}
use Rattle.densities.specs.Density.{density_answer, density_list}
use Rattle.pages.specs.Agree.{pages_same}
use Rattle.lines.specs.Lines.{refused_word}
use Rattle.page_lines.specs.PageLines.{reply_line}
use Rattle.page_matrices.specs.Matrices.{kept_text, matrices_text}

-- the density's answer with export cap 10, room for a density of 5 qubits and 64 numbers of scratch
unfoldable pub page_two_reply : List Float → ℕ → List ℕ → Reply
page_two_reply s n l = density_answer s n l 10 2048 64

-- the unscaled density of the listed qubits, row after row
abbrev pub density_of : List Float → ℕ → List ℕ → List Float
density_of s n l = density_list n l s []

-- the lines of the matrices, or of the density's refusal and page one's total
unfoldable pub page_two_text : List Float → ℕ → List ℕ → Bool → ℕ → List ℕ
unfolding page_two_reply reply_line kept_text matrices_text
page_two_text s n l accepted total =
    if_done (page_two_reply s n l).0 (matrices_text (density_of s n l) (2 ^ length l) accepted total (pages_same s n l))
    (reply_line refused_word (page_two_reply s n l) ++ kept_text accepted total)

-- what they ask: a cut of at most 9 qubits that is not refused by 1 to 5, and room
pub record Shown (n : ℕ) (l : List ℕ) (at room : ℕ) : Type 0 where
  pub small : n ≤ 9
  pub taken : (cut_refusal l n 10).0 ≡ 0
  pub fits : at + 98500 ≤ room
