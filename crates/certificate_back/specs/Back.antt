-- Page two past its list, and the last line, as lists of bytes. Definitions only.
use Rattle.std.specs.Prelude.{◌≡◌, Bool, List, [], ◌∷◌, ◌++◌, ℕ, ◌+◌, ◌≤◌, Float}
use Rattle.std.specs.Float.{binary64}
use Rattle.std.specs.Float.Ieee.{to_bits}
use Rattle.cutfile.specs.Layout.{LongEnough}
use Rattle.cut_sides.specs.Sides.{cut_refusal}
use Rattle.cut_values.specs.Schmidt.{singular_values}
use Rattle.cut_totals.specs.Totals.{kept_total}
use Rattle.page_two.specs.PageTwo.{page_two_text}

-- the bits of the total of the squares of the kept singular values, before the scale
unfoldable pub total_bits : List Float → ℕ → List ℕ → ℕ
total_bits s n l = to_bits binary64 (kept_total (singular_values s n l))

-- `end pages`
abbrev pub last_line : List ℕ
last_line = 101 ∷ 110 ∷ 100 ∷ 32 ∷ 112 ∷ 97 ∷ 103 ∷ 101 ∷ 115 ∷ 10 ∷ []

-- page two past its list, and the last line
unfoldable pub back_text : List Float → ℕ → List ℕ → Bool → List ℕ
unfolding page_two_text total_bits
back_text s n l accepted = page_two_text s n l accepted (total_bits s n l) ++ last_line

-- what it asks: a file that is long enough, a cut that is not refused by 1 to 5, and room
pub record BackReady (file : List ℕ) (n k : ℕ) (l : List ℕ) (at room : ℕ) : Type 0 where
  pub fits : LongEnough file n k
  pub taken : (cut_refusal l n 10).0 ≡ 0
  pub room-left : at + 98600 ≤ room
