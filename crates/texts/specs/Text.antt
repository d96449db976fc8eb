-- The lines of a listing, as lists of bytes, and what it is to put one at a place of a buffer. Assumes nothing.
use Rattle.std.specs.Prelude.{◌≡◌, cond, [], List, ◌∷◌, ◌++◌, ℕ, zero, suc, ◌+◌, ◌-◌, ◌*◌, ◌/◌, ◌%◌, ◌^◌, ltb, length, take, drop}
use Rattle.io.specs.Digits.{last_digits}

-- the list with a text put at a place
unfoldable pub put : ℕ → List ℕ → List ℕ → List ℕ
put at text old = take at old ++ text ++ drop (at + length text) old

-- a call put text at a place of old, which became new, and answered r
pub record Puts (at : ℕ) (text old : List ℕ) (r : ℕ) (new : List ℕ) : Type 0 where
  pub next : r ≡ at + length text
  pub cells : new ≡ put at text old

-- how many decimal digits a number takes, where those past the first are at most `most`
unfoldable pub places : ℕ → ℕ → ℕ
places zero n = 1
places (suc most) n = cond (ltb n 10) 1 (suc (places most (n / 10)))

-- a number below 10 ^ 20 in decimal
unfoldable pub decimal : ℕ → List ℕ
unfolding places
decimal n = last_digits 10 (places 19 n) n

-- a digit below 16: `0` to `9`, then `A` to `F`
abbrev pub digit : ℕ → ℕ
digit d = cond (ltb d 10) (48 + d) (55 + d)

-- the m first of the sixteen digits of a word
unfoldable pub hex : ℕ → ℕ → List ℕ
hex zero b = []
hex (suc m) b = hex m b ++ digit (b / 2 ^ (60 - 4 * m) % 16) ∷ []

unfoldable pub item_text : List ℕ → ℕ → List ℕ
unfolding decimal
item_text word n = word ++ decimal n

-- `word a` and `word a b`, with the line's end
unfoldable pub line : List ℕ → ℕ → List ℕ
unfolding item_text
line word a = item_text word a ++ 10 ∷ []

unfoldable pub pair_line : List ℕ → ℕ → ℕ → List ℕ
unfolding item_text line
pair_line word a b = item_text word a ++ line (32 ∷ []) b
