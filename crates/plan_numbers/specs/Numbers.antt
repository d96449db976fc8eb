-- The thirty numbers of a plan in a row, and the plan that thirty numbers are. Assumes nothing.
use Rattle.std.specs.Prelude.{List, [], ◌∷◌, ℕ, get_or}
use Rattle.plans.specs.declared.Plan.{Plan}

-- register and length, masks, sizes, the named list, the smaller side's list
abbrev pub numbers_of : Plan → List ℕ
numbers_of p = p.n ∷ p.k ∷ p.row_mask ∷ p.column_mask ∷ p.rows ∷ p.columns ∷ get_or p.named 0 0 ∷ get_or p.named 1 0 ∷ get_or p.named 2 0 ∷ get_or p.named 3 0 ∷ get_or p.named 4 0 ∷ get_or p.named 5 0 ∷ get_or p.named 6 0 ∷ get_or p.named 7 0 ∷ get_or p.named 8 0 ∷ get_or p.named 9 0 ∷ get_or p.named 10 0 ∷ get_or p.named 11 0 ∷ get_or p.smaller 0 0 ∷ get_or p.smaller 1 0 ∷ get_or p.smaller 2 0 ∷ get_or p.smaller 3 0 ∷ get_or p.smaller 4 0 ∷ get_or p.smaller 5 0 ∷ get_or p.smaller 6 0 ∷ get_or p.smaller 7 0 ∷ get_or p.smaller 8 0 ∷ get_or p.smaller 9 0 ∷ get_or p.smaller 10 0 ∷ get_or p.smaller 11 0 ∷ []

-- read in the same order
abbrev pub plan_at : List ℕ → Plan
plan_at w = record {
  n = get_or w 0 0;
  k = get_or w 1 0;
  row_mask = get_or w 2 0;
  column_mask = get_or w 3 0;
  rows = get_or w 4 0;
  columns = get_or w 5 0;
  named = get_or w 6 0 ∷ get_or w 7 0 ∷ get_or w 8 0 ∷ get_or w 9 0 ∷ get_or w 10 0 ∷ get_or w 11 0 ∷ get_or w 12 0 ∷ get_or w 13 0 ∷ get_or w 14 0 ∷ get_or w 15 0 ∷ get_or w 16 0 ∷ get_or w 17 0 ∷ [];
  smaller = get_or w 18 0 ∷ get_or w 19 0 ∷ get_or w 20 0 ∷ get_or w 21 0 ∷ get_or w 22 0 ∷ get_or w 23 0 ∷ get_or w 24 0 ∷ get_or w 25 0 ∷ get_or w 26 0 ∷ get_or w 27 0 ∷ get_or w 28 0 ∷ get_or w 29 0 ∷ [];
}
