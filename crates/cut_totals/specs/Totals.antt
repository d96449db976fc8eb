-- The total of the squares of the values that the finish keeps, before the scale. Definitions only.
use Rattle.std.specs.Prelude.{◌≡◌, List, ℕ, ◌*◌, ◌^◌, ◌≤◌, Float, length}
use Rattle.cut_sides.specs.Sides.{cut_refusal}
use Rattle.values.specs.Lists.{squares_from, minus_zero}
use Rattle.values.specs.Sort.{sorted_down}
use Rattle.finish.specs.Finish.{kept_values}

-- of values that are sorted downward, and of any
unfoldable pub total_sorted : List Float → Float
total_sorted s = squares_from minus_zero (kept_values s)

abbrev pub kept_total : List Float → Float
kept_total values = total_sorted (sorted_down values)

-- what the call asks: a cut of at most 9 qubits that is not refused by 1 to 5, and the state's numbers
pub record Totalled (s : List Float) (n : ℕ) (l : List ℕ) : Type 0 where
  pub small : n ≤ 9
  pub taken : (cut_refusal l n 10).0 ≡ 0
  pub state : length s ≡ 2 * 2 ^ n
