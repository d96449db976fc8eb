-- What is printed of a chain of sites, line by line, as lists of bytes. Definitions only.
use Rattle.std.specs.Prelude.{cond, [], List, ◌∷◌, ◌++◌, ℕ, zero, suc, ◌+◌, ◌-◌, ◌*◌, ◌<◌, ◌≤◌, eqb, ltb, Float, length, get_or}
use Rattle.std.specs.Float.{binary64}
use Rattle.std.specs.Float.Ieee.{to_bits}
use Rattle.complex.specs.Cells.{cell_at}
use Rattle.texts.specs.Text.{item_text, line, pair_line}
use Rattle.lines.specs.Lines.{cut_word, blank}
use Rattle.page_lines.specs.PageLines.{hex_item, bits_line}

-- the words as bytes: `chain `, `site `, `cell `, `dropped `
abbrev pub chain_word : List ℕ
chain_word = 99 ∷ 104 ∷ 97 ∷ 105 ∷ 110 ∷ 32 ∷ []

abbrev pub site_word : List ℕ
site_word = 115 ∷ 105 ∷ 116 ∷ 101 ∷ 32 ∷ []

abbrev pub site_cell_word : List ℕ
site_cell_word = 99 ∷ 101 ∷ 108 ∷ 108 ∷ 32 ∷ []

abbrev pub dropped_word : List ℕ
dropped_word = 100 ∷ 114 ∷ 111 ∷ 112 ∷ 112 ∷ 101 ∷ 100 ∷ 32 ∷ []

-- ` yes ` of 1, and ` no ` of any other number
abbrev pub quiet_word : ℕ → List ℕ
quiet_word quiet = cond (eqb quiet 1) (32 ∷ 121 ∷ 101 ∷ 115 ∷ 32 ∷ []) (32 ∷ 110 ∷ 111 ∷ 32 ∷ [])

-- `site j left right`: the bonds on both sides of site j
unfoldable pub site_line : ℕ → ℕ → ℕ → List ℕ
unfolding item_text pair_line
site_line j left right = item_text site_word j ++ pair_line blank left right

-- `cell k re im`: the bits of both parts of a site's cell k
unfoldable pub site_cell_line : ℕ → ℕ → ℕ → List ℕ
unfolding item_text hex_item bits_line
site_cell_line k re im = item_text site_cell_word k ++ hex_item blank re ++ bits_line blank im

-- the lines of the m cells from one on
unfoldable pub site_cell_lines : List Float → ℕ → ℕ → List ℕ
unfolding site_cell_line
site_cell_lines sites from zero = []
site_cell_lines sites from (suc k) =
    site_cell_lines sites from k ++ site_cell_line k (to_bits binary64 (cell_at sites (from + k)).re) (to_bits binary64 (cell_at sites (from + k)).im)

-- `cut j rank sweeps yes turned`, or with `no`: the rank that was kept behind site j, and the three marks of its SVD
unfoldable pub rank_line : ℕ → ℕ → ℕ → ℕ → ℕ → List ℕ
unfolding item_text line
rank_line j rank sweeps quiet turned = item_text cut_word j ++ item_text blank rank ++ item_text blank sweeps ++ line (quiet_word quiet) turned

-- the line of the cut behind site j: none behind the last
unfoldable pub cut_behind : ℕ → List ℕ → List ℕ → ℕ → List ℕ
unfolding rank_line
cut_behind n bonds marks j =
    cond (ltb (j + 1) n) (rank_line j (get_or bonds (j + 1) 0) (get_or marks (3 * j) 0) (get_or marks (3 * j + 1) 0) (get_or marks (3 * j + 2) 0)) []

-- the lines of site j: its bonds, its cells, which are those from starts[j] to starts[j + 1], and the cut behind it
unfoldable pub site_text : ℕ → List Float → List ℕ → List ℕ → List ℕ → ℕ → List ℕ
unfolding site_line site_cell_lines cut_behind
site_text n sites bonds starts marks j =
    site_line j (get_or bonds j 0) (get_or bonds (j + 1) 0)
    ++ site_cell_lines sites (get_or starts j 0) (get_or starts (j + 1) 0 - get_or starts j 0)
    ++ cut_behind n bonds marks j

-- the lines of the m first sites
unfoldable pub site_texts : ℕ → List Float → List ℕ → List ℕ → List ℕ → ℕ → List ℕ
unfolding site_text
site_texts n sites bonds starts marks zero = []
site_texts n sites bonds starts marks (suc j) = site_texts n sites bonds starts marks j ++ site_text n sites bonds starts marks j

-- all that is printed of a chain of n sites: `chain n`, the sites, `dropped d`
unfoldable pub chain_text : ℕ → ℕ → List Float → List ℕ → List ℕ → List ℕ → List ℕ
unfolding site_texts line
chain_text n dropped sites bonds starts marks = line chain_word n ++ site_texts n sites bonds starts marks n ++ line dropped_word dropped

-- what the lines ask: lists that hold a chain of n sites, whose cells stand one site after another, and room
pub record ChainLaid (n : ℕ) (sites : List Float) (bonds starts marks : List ℕ) (room : ℕ) : Type 0 where
  pub small : n ≤ 12
  pub bonds-hold : n < length bonds
  pub starts-hold : n < length starts
  pub marks-hold : 3 * (n - 1) ≤ length marks
  pub rising : (j : ℕ) → j < n → get_or starts j 0 ≤ get_or starts (j + 1) 0
  pub cells-hold : 2 * get_or starts n 0 ≤ length sites
  pub fits : 60 * get_or starts n 0 + 160 * n + 56 ≤ room
