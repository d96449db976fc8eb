-- The numbers of a list as whole numbers from 0 on: each is 2^18 more than it is in whole numbers of 2^-18. Definitions
-- only.
use Rattle.std.specs.Prelude.{◌≡◌, List, ℕ, ◌+◌, ◌-◌, ◌^◌, ◌≤◌, ◌<◌, Float, length, get_or}
use Rattle.countersign_cells.specs.Cells.{value_at}

unfoldable pub shifted_at : List Float → ℕ → ℕ
shifted_at s i = 2 ^ 18 + (value_at s i).over - (value_at s i).under

-- the numbers of x stand at the front of xs
pub record Shifted (x : List Float) (xs : List ℕ) : Type 0 where
  pub room : length x ≤ length xs
  pub stands : (i : ℕ) → i < length x → get_or xs i 0 ≡ shifted_at x i
