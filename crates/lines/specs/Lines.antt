-- What `cutprint` prints, line by line, as lists of bytes. Assumes nothing.
use Rattle.std.specs.Prelude.{Bool, true, false, [], List, ◌∷◌, ◌++◌, ℕ, zero, suc, Float, length, get_or}
use Rattle.std.specs.Float.{nan, binary64}
use Rattle.std.specs.Float.Ieee.{to_bits}
use Rattle.answers.specs.Paper.{Reply}
use Rattle.texts.specs.Text.{hex, item_text, pair_line}

-- the words as bytes: `cut `, `side`, `value `, `entropy `, `end `, `refused `, and a blank
abbrev pub cut_word : List ℕ
cut_word = 99 ∷ 117 ∷ 116 ∷ 32 ∷ []

abbrev pub side_word : List ℕ
side_word = 115 ∷ 105 ∷ 100 ∷ 101 ∷ []

abbrev pub value_word : List ℕ
value_word = 118 ∷ 97 ∷ 108 ∷ 117 ∷ 101 ∷ 32 ∷ []

abbrev pub entropy_word : List ℕ
entropy_word = 101 ∷ 110 ∷ 116 ∷ 114 ∷ 111 ∷ 112 ∷ 121 ∷ 32 ∷ []

abbrev pub end_word : List ℕ
end_word = 101 ∷ 110 ∷ 100 ∷ 32 ∷ []

abbrev pub refused_word : List ℕ
refused_word = 114 ∷ 101 ∷ 102 ∷ 117 ∷ 115 ∷ 101 ∷ 100 ∷ 32 ∷ []

abbrev pub blank : List ℕ
blank = 32 ∷ []

-- `refused N P`, the number and the place
unfoldable pub refused_line : Reply → List ℕ
unfolding pair_line
refused_line r = pair_line refused_word r.0 r.1

-- `cut n k rows cols`
unfoldable pub cut_line : ℕ → ℕ → ℕ → ℕ → List ℕ
unfolding item_text pair_line
cut_line n k rows cols = item_text cut_word n ++ item_text blank k ++ pair_line blank rows cols

-- `value rank bits`
unfoldable pub value_line : ℕ → ℕ → List ℕ
unfolding item_text hex
value_line rank bits = item_text value_word rank ++ blank ++ hex 16 bits ++ 10 ∷ []

-- the m first numbers of a list, a blank before each
unfoldable pub items : ℕ → List ℕ → List ℕ
unfolding item_text
items zero l = []
items (suc m) l = items m l ++ item_text blank (get_or l m 0)

-- `side` and the list
unfoldable pub side_line : List ℕ → List ℕ
unfolding items
side_line l = side_word ++ items (length l) l ++ 10 ∷ []

-- the lines of the m first values
unfoldable pub value_lines : ℕ → List Float → List ℕ
unfolding value_line
value_lines zero l = []
value_lines (suc m) l = value_lines m l ++ value_line m (to_bits binary64 (get_or l m nan))

-- ` yes` or ` no`, with the line's end
unfoldable pub quiet_text : Bool → List ℕ
quiet_text true = 32 ∷ 121 ∷ 101 ∷ 115 ∷ 10 ∷ []
quiet_text false = 32 ∷ 110 ∷ 111 ∷ 10 ∷ []

-- `end count sweeps yes` or `end count sweeps no`: how many values there are, how many sweeps were begun, whether the last was quiet
unfoldable pub end_line : ℕ → ℕ → Bool → List ℕ
unfolding item_text quiet_text
end_line count sweeps quiet = item_text end_word count ++ item_text blank sweeps ++ quiet_text quiet

-- `entropy low high whole`: the sums of w*lo and of w*hi, and 4096 times the sum of the weights
unfoldable pub entropy_line : ℕ → ℕ → ℕ → List ℕ
unfolding item_text pair_line
entropy_line low high whole = item_text entropy_word low ++ pair_line blank high whole

-- the last two lines
unfoldable pub last_lines : ℕ → ℕ → ℕ → ℕ → ℕ → Bool → List ℕ
unfolding entropy_line end_line
last_lines low high whole count sweeps quiet = entropy_line low high whole ++ end_line count sweeps quiet

-- all that is printed of a cut that is answered 0
unfoldable pub listing : ℕ → ℕ → ℕ → ℕ → List ℕ → List Float → ℕ → ℕ → ℕ → ℕ → Bool → List ℕ
unfolding cut_line side_line value_lines last_lines
listing n k rows cols side values low high whole sweeps quiet =
    cut_line n k rows cols ++ side_line side ++ value_lines (length values) values ++ last_lines low high whole (length values) sweeps quiet
