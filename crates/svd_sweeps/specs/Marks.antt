-- Which pairs need no second look. Each look at a pair has a number that rises with the sweeps, their columns and the pairs of a
-- column; a column's mark is the number of the look that last turned it. A pair whose columns were not turned since the last look
-- at it was left then, and is left again. Assumes nothing.
use Rattle.std.specs.Prelude.{◌≡◌, None, List, ℕ, ◌+◌, ◌*◌, ◌≤◌, ◌<◌, Float, get_or}
use Rattle.sweeps.specs.declared.Sweeps.{Sweeps}
use Rattle.svd_sweeps.specs.Untouched.{decision_at}

-- the number of the look at the pair p, q in the sweep k
abbrev pub look : ℕ → ℕ → ℕ → ℕ
look k p q = k * 4096 + p * 64 + q

-- before the look t: each pair whose columns' marks are older than the last look at it would be left
pub record Seen (m n t : ℕ) (marks : List ℕ) (work : List Float) : Type 0 where
  pub left : (k p q : ℕ) → p < q → q < n → look k p q < t → t ≤ look k p q + 4096 → get_or marks p 0 < look k p q → get_or marks q 0 < look k p q
      → None ≡ decision_at m n p q work

-- the pair p, q of n columns in the sweep that s counts, with a mark for each column
pub record Marked (n p q : ℕ) (s : Sweeps) (l : ℕ) : Type 0 where
  pub rising : p < q
  pub within : q < n
  pub turned : s.turned < 1000000
  pub begun : 1 ≤ s.begun
  pub few : s.begun ≤ 1000
  pub marks : l ≡ 64
