-- What is printed of a lot's sheet, line by line, as lists of bytes. Definitions only.
use Rattle.std.specs.Prelude.{[], List, ◌∷◌, ◌++◌, ℕ, zero, suc, ◌+◌, length, get_or, take, drop}
use Rattle.texts.specs.Text.{line, pair_line}

-- the words as bytes: `lot `, `answer `, `rank `, `smallest `, `largest `, `sum `
abbrev pub lot_word : List ℕ
lot_word = 108 ∷ 111 ∷ 116 ∷ 32 ∷ []

abbrev pub answer_word : List ℕ
answer_word = 97 ∷ 110 ∷ 115 ∷ 119 ∷ 101 ∷ 114 ∷ 32 ∷ []

abbrev pub rank_word : List ℕ
rank_word = 114 ∷ 97 ∷ 110 ∷ 107 ∷ 32 ∷ []

abbrev pub smallest_word : List ℕ
smallest_word = 115 ∷ 109 ∷ 97 ∷ 108 ∷ 108 ∷ 101 ∷ 115 ∷ 116 ∷ 32 ∷ []

abbrev pub largest_word : List ℕ
largest_word = 108 ∷ 97 ∷ 114 ∷ 103 ∷ 101 ∷ 115 ∷ 116 ∷ 32 ∷ []

abbrev pub sum_word : List ℕ
sum_word = 115 ∷ 117 ∷ 109 ∷ 32 ∷ []

-- `word place count` for the m first of a row of counts, whose first place is given
unfoldable pub count_lines : List ℕ → ℕ → ℕ → List ℕ → List ℕ
unfolding pair_line
count_lines word first zero l = []
count_lines word first (suc m) l = count_lines word first m l ++ pair_line word (first + m) (get_or l m 0)

-- `smallest R F`, `largest R F` and `sum S`
unfoldable pub mark_lines : List ℕ → List ℕ
unfolding pair_line line
mark_lines l = pair_line smallest_word (get_or l 27 0) (get_or l 28 0) ++ pair_line largest_word (get_or l 29 0) (get_or l 30 0) ++ line sum_word (get_or l 31 0)

-- the answers 0 to 10 and the ranks 1 to 16 of a sheet's 32 numbers
abbrev pub answers_of : List ℕ → List ℕ
answers_of l = take 11 l

abbrev pub ranks_of : List ℕ → List ℕ
ranks_of l = take 16 (drop 11 l)

-- all that is printed of a lot that is answered 0: `lot COUNT`, the answers, the ranks, the marks
unfoldable pub sheet_text : ℕ → List ℕ → List ℕ
unfolding count_lines mark_lines line
sheet_text count l =
    line lot_word count
    ++ count_lines answer_word 0 (length (answers_of l)) (answers_of l)
    ++ count_lines rank_word 1 (length (ranks_of l)) (ranks_of l)
    ++ mark_lines l
