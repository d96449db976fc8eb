-- The density of the named qubits summed from the cut matrix alone, in 01's order. Definitions only.
use Rattle.std.specs.Prelude.{cond, List, ℕ, ◌+◌, ◌-◌, ◌*◌, ◌^◌, Float, length}
use Rattle.submasks.specs.Submasks.{submask_number}
use Rattle.qubits.specs.Spread.{named, row_offset}
use Rattle.complex.specs.declared.Complex.{Complex}
use Rattle.complex.specs.Arithmetic.{product, conjugate}
use Rattle.complex.specs.Cells.{cell_at}
use Rattle.cut_sides.specs.Sides.{side, named_rows, row_mask, column_mask}
use Rattle.density_entries.specs.Entries.{total}
use Rattle.density_entries.specs.Squares.{mirrored_entry, row_major}

-- the cell of the amplitude x: its row and its column are x's bits on the two sides, packed
abbrev pub place_of : ℕ → List ℕ → ℕ → ℕ
place_of n l x = submask_number n (column_mask l n) x * 2 ^ side l n + submask_number n (row_mask l n) x

-- the number of the setting t among the settings of the named side
abbrev pub number_of : ℕ → List ℕ → ℕ → ℕ
number_of n l t = submask_number n (named l) (row_offset l t)

-- the cell of the setting t and the traced index e: when the named qubits are the rows, e is the column number, otherwise the row number
abbrev pub pair_place : ℕ → List ℕ → ℕ → ℕ → ℕ
pair_place n l t e = cond (named_rows l n) (e * 2 ^ side l n + number_of n l t) (number_of n l t * 2 ^ side l n + e)

abbrev pub cut_amplitude : ℕ → List ℕ → List Float → ℕ → ℕ → Complex
cut_amplitude n l m t e = cell_at m (pair_place n l t e)

-- the entry of row t and column u, u at most t: from +0.0, e rising
abbrev pub cut_entry : ℕ → List ℕ → List Float → ℕ → ℕ → Complex
cut_entry n l m t u = total (2 ^ (n - length l)) (λ e. product (cut_amplitude n l m t e) (conjugate (cut_amplitude n l m u e)))

-- the k-th cell of the density summed from the cut matrix m, row after row
abbrev pub cut_density_cell : ℕ → List ℕ → List Float → ℕ → Complex
cut_density_cell n l m = row_major (2 ^ length l) (mirrored_entry (cut_entry n l m))
