-- Page one, and page two up to its list, as lists of bytes. Definitions only.
use Rattle.std.specs.Prelude.{◌≡◌, Bool, List, [], ◌∷◌, ◌++◌, ℕ, ◌+◌, ◌≤◌, Float, length, take, Result, Ok}
use Rattle.answers.specs.declared.Refusal.{Refusal}
use Rattle.answers.specs.Paper.{Reply, paper, given, if_done}
use Rattle.cut_values.specs.declared.CutCounted.{CutCounted}
use Rattle.cut_values.specs.Schmidt.{no_cut}
use Rattle.lines.specs.Lines.{refused_word}
use Rattle.certificates.specs.Accepted.{Printable, accepted_text}
use Rattle.page_lines.specs.PageLines.{bits_line, said_line, list_line, reply_line}

-- `page 1`, `page 2`, `digest `, `exact`
abbrev pub page_one_line : List ℕ
page_one_line = 112 ∷ 97 ∷ 103 ∷ 101 ∷ 32 ∷ 49 ∷ 10 ∷ []

abbrev pub page_two_line : List ℕ
page_two_line = 112 ∷ 97 ∷ 103 ∷ 101 ∷ 32 ∷ 50 ∷ 10 ∷ []

abbrev pub digest_word : List ℕ
digest_word = 100 ∷ 105 ∷ 103 ∷ 101 ∷ 115 ∷ 116 ∷ 32 ∷ []

abbrev pub exact_word : List ℕ
exact_word = 101 ∷ 120 ∷ 97 ∷ 99 ∷ 116 ∷ []

-- a page's first line, and the digest of the file
unfoldable pub head_text : List ℕ → ℕ → List ℕ
unfolding bits_line
head_text page digest = page ++ bits_line digest_word digest

-- the lines of a cut that is answered 0 and the mark of its roots, or the line of its refusal
unfoldable pub one_text : Reply → ℕ → List ℕ → List Float → ℕ → Bool → Bool → List ℕ
unfolding accepted_text said_line reply_line
one_text a n l values begun quiet exact = if_done a.0 (accepted_text n l values begun quiet ++ said_line exact_word exact) (reply_line refused_word a)

-- page one, and page two up to its list
unfoldable pub front_text : ℕ → Reply → ℕ → List ℕ → List Float → ℕ → Bool → Bool → List ℕ
unfolding head_text one_text list_line
front_text digest a n l values begun quiet exact =
    head_text page_one_line digest ++ one_text a n l values begun quiet exact ++ head_text page_two_line digest ++ list_line l

-- the same of what a cut gave, whose values stand at the front of a list
abbrev pub one_of : Result CutCounted Refusal → ℕ → List ℕ → List Float → List ℕ
one_of cut n l values =
    one_text (paper cut) n l (take (given no_cut cut).count values) (given no_cut cut).sweeps.begun (given no_cut cut).sweeps.quiet (given no_cut cut).exact

abbrev pub front_of : ℕ → Result CutCounted Refusal → ℕ → List ℕ → List Float → List ℕ
front_of digest cut n l values =
    front_text digest (paper cut) n l (take (given no_cut cut).count values) (given no_cut cut).sweeps.begun (given no_cut cut).sweeps.quiet (given no_cut cut).exact

-- what is asked of an accepted cut: its values are there, and what its lines ask
pub record Kept (cut : Result CutCounted Refusal) (l : List ℕ) (n : ℕ) (values : List Float) : Type 0 where
  pub held : (kept : CutCounted) → cut ≡ Ok kept → kept.count ≤ length values
  pub printable : (kept : CutCounted) → cut ≡ Ok kept → Printable l n (take kept.count values)

-- what the lines ask: that, at most 9 qubits listed, and room
pub record OneReady (cut : Result CutCounted Refusal) (l : List ℕ) (n : ℕ) (values : List Float) (at room : ℕ) : Type 0 where
  pub kept : Kept cut l n values
  pub fits : at + 2100 ≤ room

pub record FrontReady (cut : Result CutCounted Refusal) (l : List ℕ) (n : ℕ) (values : List Float) (room : ℕ) : Type 0 where
  pub kept : Kept cut l n values
  pub few : length l ≤ 9
  pub fits : 2400 ≤ room
