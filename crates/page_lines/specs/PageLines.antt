-- The short lines of the two pages, as lists of bytes. Assumes nothing.
use Rattle.std.specs.Prelude.{Bool, [], List, ◌∷◌, ◌++◌, ℕ, length}
use Rattle.answers.specs.Paper.{Reply}
use Rattle.texts.specs.Text.{hex, pair_line}
use Rattle.lines.specs.Lines.{items, quiet_text}

-- a word and a bit pattern, and the same as a line
unfoldable pub hex_item : List ℕ → ℕ → List ℕ
unfolding hex
hex_item word bits = word ++ hex 16 bits

unfoldable pub bits_line : List ℕ → ℕ → List ℕ
unfolding hex_item
bits_line word bits = hex_item word bits ++ 10 ∷ []

-- a word, and ` yes` or ` no`
unfoldable pub said_line : List ℕ → Bool → List ℕ
unfolding quiet_text
said_line word so = word ++ quiet_text so

-- `list` and the list
abbrev pub list_word : List ℕ
list_word = 108 ∷ 105 ∷ 115 ∷ 116 ∷ []

unfoldable pub list_line : List ℕ → List ℕ
unfolding items
list_line l = list_word ++ items (length l) l ++ 10 ∷ []

-- a word, and an answer's number and place
unfoldable pub reply_line : List ℕ → Reply → List ℕ
unfolding pair_line
reply_line word r = pair_line word r.0 r.1
