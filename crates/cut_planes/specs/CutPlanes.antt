-- The cells of the work matrix of a cut, by the two masks over whose submasks its columns and its rows go. Definitions only.
use Rattle.std.specs.Prelude.{Bool, cond, List, ℕ, ◌-◌, ◌/◌, ◌%◌, Float}
use Rattle.std.specs.Int.Bits.{bit_or}
use Rattle.submasks.specs.Submasks.{submask_at}
use Rattle.complex.specs.declared.Complex.{Complex}
use Rattle.complex.specs.Arithmetic.{conjugate}
use Rattle.complex.specs.Cells.{cell_at}
use Rattle.cuts.specs.Cut.{amplitude}

-- a cell, or its conjugate
unfoldable pub shown : Bool → Complex → Complex
shown conjugated z = cond conjugated (conjugate z) z

-- the i-th cell of a matrix of `count` rows: a row for each submask of the inner mask, a column for each of the outer
unfoldable pub work_cell : ℕ → ℕ → ℕ → ℕ → Bool → List Float → ℕ → Complex
work_cell n inner outer count conjugated s i = shown conjugated (amplitude n inner outer s (i % count) (i / count))

-- the i-th cell where a column starts at the cell `at`, of the outer mask's submask `bits`
unfoldable pub column_cell : ℕ → ℕ → ℕ → ℕ → Bool → List Float → ℕ → Complex
column_cell n inner bits at conjugated s i = shown conjugated (cell_at s (bit_or (submask_at n inner (i - at)) bits))
