-- The sheet of a lot: each of its numbers is defined from the list of single results. Definitions only.
use Rattle.std.specs.Prelude.{◌≡◌, Bool, true, false, cond, List, [], ◌∷◌, ◌++◌, ℕ, zero, suc, ◌+◌, ◌≤◌, ◌<◌, min, max, eqb, ltb, length, get_or}
use Rattle.std.proofs.Math.Seq.{paste}
use Rattle.lot_tallies.specs.declared.Sheet.{Sheet}
use Rattle.lot_tallies.specs.declared.Mark.{Mark}

-- a single result: the answer's number, and the rank, which is 0 of a refused file
abbrev pub Single : Type 0
Single = ℕ × ℕ

-- what a single result keeps to: answers go to 10, an accepted file's rank is 1 to 16, a refused file's is 0
pub record Fair (number rank : ℕ) : Type 0 where
  pub few : number ≤ 10
  pub accepted : number ≡ 0 → (1 ≤ rank) × (rank ≤ 16)
  pub refused : (number ≡ 0 → ⊥) → rank ≡ 0

-- 1 where a test holds
abbrev pub one : Bool → ℕ
one true = 1
one false = 0

-- how many of the results pass a test
unfoldable pub how_many : (Single → Bool) → List Single → ℕ
how_many f [] = 0
how_many f (x ∷ rs) = one (f x) + how_many f rs

-- how many files gave that answer, and how many kept that rank
abbrev pub count_is : ℕ → List Single → ℕ
count_is k rs = how_many (λ x. eqb x.0 k) rs

abbrev pub rank_is : ℕ → List Single → ℕ
rank_is r rs = how_many (λ x. eqb x.1 r) rs

-- the smaller of two ranks, where 0 is none
abbrev pub lesser : ℕ → ℕ → ℕ
lesser zero b = b
lesser (suc a) zero = suc a
lesser (suc a) (suc b) = min (suc a) (suc b)

-- the smallest and the largest rank, 0 where no file was accepted
unfoldable pub smallest : List Single → ℕ
smallest [] = 0
smallest (x ∷ rs) = lesser x.1 (smallest rs)

unfoldable pub largest : List Single → ℕ
largest [] = 0
largest (x ∷ rs) = max x.1 (largest rs)

-- the number of the first file with that rank, where the first of the list has number i; 0 where there is none
unfoldable pub first_from : ℕ → ℕ → List Single → ℕ
first_from i r [] = 0
first_from i r (x ∷ rs) = cond (eqb x.1 r) i (first_from (suc i) r rs)

-- the first file with that rank, counted from 1; 0 for the rank 0, which is none
unfoldable pub first_with : ℕ → List Single → ℕ
unfolding first_from
first_with zero rs = 0
first_with (suc r) rs = first_from 1 (suc r) rs

-- the sum of the ranks
unfoldable pub rank_sum : List Single → ℕ
rank_sum [] = 0
rank_sum (x ∷ rs) = x.1 + rank_sum rs

-- m numbers, the i-th of them f i
unfoldable pub each : ℕ → (ℕ → ℕ) → List ℕ
each zero f = []
each (suc m) f = each m f ++ f m ∷ []

-- the sheet of a list of single results
unfoldable pub sheet_of : List Single → Sheet
unfolding each how_many smallest largest first_with rank_sum
sheet_of rs = record {
  answers = each 11 (λ k. count_is k rs);
  ranks = each 16 (λ r. rank_is (suc r) rs);
  smallest = smallest rs;
  smallest_file = first_with (smallest rs) rs;
  largest = largest rs;
  largest_file = first_with (largest rs) rs;
  sum = rank_sum rs;
}

-- its 32 numbers
unfoldable pub sheet_numbers : Sheet → List ℕ
sheet_numbers s =
    s.answers ++ s.ranks ++ s.smallest ∷ s.smallest_file ∷ s.largest ∷ s.largest_file ∷ s.sum ∷ []

-- each result keeps to that
abbrev pub AllFair : List Single → Type 0
AllFair rs = (i : ℕ) → i < length rs → Fair (get_or rs i (0, 0)).0 (get_or rs i (0, 0)).1

-- the sheet is that of as many files
pub record Tallied (sheet : Sheet) (files : ℕ) : Type 0 where
  pub results : List Single
  pub count : length results ≡ files
  pub fair : AllFair results
  pub sheet-is : sheet ≡ sheet_of results

-- the sum of a row of numbers
unfoldable pub add_up : List ℕ → ℕ
add_up [] = 0
add_up (x ∷ l) = x + add_up l

-- ---- the steps

-- the held rank and its file, or the new ones: where none is held or the new rank is smaller, and where it is larger
unfoldable pub smaller_mark : ℕ → ℕ → ℕ → ℕ → Mark
smaller_mark held first rank file =
    cond (eqb held 0) (record { rank = rank; file = file })
    (cond (ltb rank held) (record { rank = rank; file = file })
    (record { rank = held; file = first }))

unfoldable pub larger_mark : ℕ → ℕ → ℕ → ℕ → Mark
larger_mark held first rank file = cond (ltb held rank) (record { rank = rank; file = file }) (record { rank = held; file = first })

-- the list with the n first numbers of a part put at a place
unfoldable pub part_put : ℕ → List ℕ → ℕ → List ℕ → List ℕ
part_put at part n out = paste out at part n

-- one more file was added: the sheet of any results so far became that of these and the new one
abbrev pub Adds : Sheet → ℕ → ℕ → ℕ → Sheet → Type 0
Adds sheet files number rank r = (rs : List Single) → sheet ≡ sheet_of rs → length rs ≡ files → r ≡ sheet_of (rs ++ (number, rank) ∷ [])
