-- The page of a chain's cuts: what its first cuts leave, their answer, and the room that they ask. Definitions only.
use Rattle.std.specs.Prelude.{◌≡◌, List, [], ◌∷◌, ◌++◌, ℕ, zero, suc, ◌+◌, ◌-◌, ◌*◌, ◌/◌, ◌^◌, ◌≤◌, ◌<◌, length, take, get_or, Float, Result, IfOk}
use Rattle.std.specs.Float.{nan}
use Rattle.answers.specs.declared.Refusal.{Refusal}
use Rattle.answers.specs.Paper.{Reply, paper, done, and_then}
use Rattle.complex.specs.Cells.{components}
use Rattle.cut_sides.specs.Sides.{cut_sizes}
use Rattle.cut_values.specs.declared.CutCounted.{CutCounted}
use Rattle.profile_cut.specs.Cut.{room_at, values_at, reply_at, result_at, marks_of, marks_each}

-- each cut's count and offset, the values one cut after another, each cut's largest value, rank and marks
pub record Page : Type 0 where
  pub header : List ℕ
  pub values : List Float
  pub largest : List Float
  pub ranks : List ℕ
  pub marks : List ℕ

-- the first of a cut's kept values
abbrev pub first_value : List Float → Float
first_value kept = get_or kept 0 nan

-- one cut more, of these kept values and this result
abbrev pub with_cut : Page → List Float → CutCounted → Page
with_cut p kept r = record {
  header = p.header ++ length kept ∷ length p.values ∷ [];
  values = p.values ++ kept;
  largest = p.largest ++ first_value kept ∷ [];
  ranks = p.ranks ++ length kept ∷ [];
  marks = p.marks ++ marks_of r;
}

-- the page of the first so many cuts
unfoldable pub cuts_to : List Float → ℕ → ℕ → Page
cuts_to s n zero = record { header = []; values = []; largest = []; ranks = []; marks = [] }
cuts_to s n (suc j) = with_cut (cuts_to s n j) (values_at s n j) (result_at s n j)

-- their answer: the lowest j that is refused
unfoldable pub cuts_reply : List Float → ℕ → ℕ → Reply
cuts_reply s n zero = done
cuts_reply s n (suc j) = and_then (cuts_reply s n j) (reply_at s n j)

-- the most values that they have
unfoldable pub cuts_room : ℕ → ℕ → ℕ
cuts_room n zero = 0
cuts_room n (suc j) = cuts_room n j + room_at n j

-- ---- one cut

pub record PutRoom (s : List Float) (n j cap at header values largest ranks marks scratch : ℕ) : Type 0 where
  pub sizes : (cut_sizes n cap).0 ≡ 0
  pub small : n ≤ 12
  pub inside : suc j < n
  pub state-is : length s ≡ 2 * 2 ^ n
  pub allowed : (components 0 s).0 ≡ 0
  pub values-fit : at + room_at n j ≤ values
  pub scratch-fits : 8 * 2 ^ n + 2 * room_at n j ≤ scratch
  pub in-header : 2 * j + 2 ≤ header
  pub in-largest : j < largest
  pub in-ranks : j < ranks
  pub in-marks : marks_each * j + marks_each ≤ marks

-- what a cut that is answered 0 leaves at the front of each slice
pub record Taken (s : List Float) (n j at : ℕ) (header : List ℕ) (values largest : List Float) (ranks marks : List ℕ) (next : ℕ)
    (header' : List ℕ) (values' largest' : List Float) (ranks' marks' : List ℕ) : Type 0 where
  pub at-is : next ≡ at + length (values_at s n j)
  pub header_is : take (2 * suc j) header' ≡ take (2 * j) header ++ length (values_at s n j) ∷ at ∷ []
  pub values-is : take next values' ≡ take at values ++ values_at s n j
  pub largest-is : take (suc j) largest' ≡ take j largest ++ first_value (values_at s n j) ∷ []
  pub ranks-is : take (suc j) ranks' ≡ take j ranks ++ length (values_at s n j) ∷ []
  pub marks-is : take (marks_each * suc j) marks' ≡ take (marks_each * j) marks ++ marks_of (result_at s n j)

pub record PutCut (s : List Float) (n j at : ℕ) (header : List ℕ) (values largest : List Float) (ranks marks : List ℕ) (r : Result ℕ Refusal)
    (header' : List ℕ) (values' largest' : List Float) (ranks' marks' : List ℕ) : Type 0 where
  pub answer : paper r ≡ reply_at s n j
  pub taken : IfOk r (λ next. Taken s n j at header values largest ranks marks next header' values' largest' ranks' marks')

-- ---- the walk

pub record WalkRoom (s : List Float) (n cap header values largest ranks marks scratch : ℕ) : Type 0 where
  pub sizes : (cut_sizes n cap).0 ≡ 0
  pub some : 1 ≤ n
  pub small : n ≤ 12
  pub state-is : length s ≡ 2 * 2 ^ n
  pub allowed : (components 0 s).0 ≡ 0
  pub header-fits : 2 * (n - 1) ≤ header
  pub values-fit : cuts_room n (n - 1) ≤ values
  pub largest-fits : n - 1 ≤ largest
  pub ranks-fit : n - 1 ≤ ranks
  pub marks-fit : marks_each * (n - 1) ≤ marks
  pub scratch-fits : 8 * 2 ^ n + 2 * 2 ^ (n / 2) ≤ scratch

-- after j cuts that were answered 0
pub record Walking (s : List Float) (n j at : ℕ) (header : List ℕ) (values largest : List Float) (ranks marks : List ℕ) : Type 0 where
  pub at-is : at ≡ length (cuts_to s n j).values
  pub header_is : take (2 * j) header ≡ (cuts_to s n j).header
  pub values-is : take at values ≡ (cuts_to s n j).values
  pub largest-is : take j largest ≡ (cuts_to s n j).largest
  pub ranks-is : take j ranks ≡ (cuts_to s n j).ranks
  pub marks-is : take (marks_each * j) marks ≡ (cuts_to s n j).marks
  pub reply-is : cuts_reply s n j ≡ done

-- the answer of every cut, and where it is 0 what they leave
pub record WalkEnd (s : List Float) (n : ℕ) (r : Result ℕ Refusal) (header : List ℕ) (values largest : List Float) (ranks marks : List ℕ) : Type 0 where
  pub answer : paper r ≡ cuts_reply s n (n - 1)
  pub walked : IfOk r (λ at. Walking s n (n - 1) at header values largest ranks marks)
