-- The numbers and the cells of a list, in whole numbers of 2^-18. Definitions only.
use Rattle.std.specs.Prelude.{Bool, true, false, List, ℕ, ◌+◌, ◌*◌, ℤ, pos, neg_ℤ, Float, get_or, Option, Some, None}
use Rattle.std.specs.Float.{nan}
use Rattle.countersign_grid.specs.declared.Grid.{Grid}
use Rattle.countersign_grid.specs.Grid.{grid_of}
use Rattle.countersign_sums.specs.declared.Whole.{Whole}
use Rattle.countersign_sums.specs.declared.Gaussian.{Gaussian}
use Rattle.countersign_sums.specs.Wholes.{whole_of}
use Rattle.countersign_sums.specs.Gaussians.{gaussian_of}

-- a float on the grid; one off it counts as 0
abbrev pub whole_grid : Option Grid → Whole
whole_grid None = whole_of 0 0
whole_grid (Some g) = whole_of g.over g.under

-- a float, in whole numbers of 2^-18
unfoldable pub whole_float : Float → Whole
whole_float x = whole_grid (grid_of x)

-- the number i; past the list's end it is 0, as the logic reads a nan there
unfoldable pub value_at : List Float → ℕ → Whole
value_at s i = whole_float (get_or s i nan)

-- the cell x: two numbers, the real part first
unfoldable pub whole_cell : List Float → ℕ → Gaussian
whole_cell s x = gaussian_of (value_at s (2 * x)) (value_at s (2 * x + 1))

-- k with the sign of a float: below 0 where it has a minus sign
abbrev pub signed : Bool → ℕ → ℤ
signed true k = neg_ℤ (pos k)
signed false k = pos k
