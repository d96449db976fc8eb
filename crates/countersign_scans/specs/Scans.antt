-- The first failing cell of a test, and the test of the values. Definitions only.
use Rattle.std.specs.Prelude.{Bool, cond, ◌&&◌, List, ℕ, zero, suc, ◌<◌, Float, Option, SomeIff}
use Rattle.countersign_sums.specs.Wholes.{whole_of, at_most}
use Rattle.countersign_cells.specs.Cells.{value_at}

-- the first cell from i on, of so many that are left, at which the test fails; past the last of them where it fails
-- at none
unfoldable pub first_fail : (ℕ → Bool) → ℕ → ℕ → ℕ
first_fail f i zero = i
first_fail f i (suc left) = cond (f i) (first_fail f (suc i) left) i

-- of so many cells: the first that fails, or that none does
abbrev pub FirstFail : (ℕ → Bool) → ℕ → Option ℕ → Type 0
FirstFail f cells r = SomeIff r (first_fail f 0 cells < cells) (first_fail f 0 cells)

-- value i is 0 or more, and no more than the one before it
unfoldable pub value_fits : List Float → ℕ → Bool
value_fits s zero = at_most (whole_of 0 0) (value_at s 0)
value_fits s (suc i) = at_most (whole_of 0 0) (value_at s (suc i)) && at_most (value_at s (suc i)) (value_at s i)
