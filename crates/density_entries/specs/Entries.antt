-- The entries of a density, from the state: what 01 calls the sum over the traced index. Definitions only.
use Rattle.std.specs.Prelude.{List, ℕ, zero, suc, ◌-◌, ◌^◌, Float, length}
use Rattle.std.specs.Int.Bits.{bit_or}
use Rattle.complex.specs.declared.Complex.{Complex}
use Rattle.complex.specs.Arithmetic.{complex_of, sum_of, product, conjugate}
use Rattle.complex.specs.Cells.{cell_at}
use Rattle.complex.specs.Zeros.{zero_float}
use Rattle.submasks.specs.Submasks.{submask_at}
use Rattle.qubits.specs.Spread.{row_offset, traced_base}
use Rattle.density_entries.specs.Squares.{mirrored_entry, row_major}

-- from +0.0, the terms 0 to m - 1 added in rising order
unfoldable pub total : ℕ → (ℕ → Complex) → Complex
total zero f = complex_of zero_float zero_float
total (suc m) f = sum_of (total m f) (f m)

-- the amplitude of the setting t of the listed qubits and the traced index e
abbrev pub setting_amplitude : ℕ → List ℕ → List Float → ℕ → ℕ → Complex
setting_amplitude n l s t e = cell_at s (bit_or (row_offset l t) (traced_base n l e))

-- the entry of row t and column u, u at most t: e rising
abbrev pub lower_entry : ℕ → List ℕ → List Float → ℕ → ℕ → Complex
lower_entry n l s t u = total (2 ^ (n - length l)) (λ e. product (setting_amplitude n l s t e) (conjugate (setting_amplitude n l s u e)))

-- the k-th cell of the density, row after row; the upper half is the conjugate of the lower
abbrev pub density_cell : ℕ → List ℕ → List Float → ℕ → Complex
density_cell n l s = row_major (2 ^ length l) (mirrored_entry (lower_entry n l s))

-- ---- the same over the submasks of a mask, which is how the code goes through the traced indices

-- the e-th term of the entry of the row offsets a and b
abbrev pub density_term : ℕ → List Float → ℕ → ℕ → ℕ → ℕ → Complex
density_term n s mask a b e = product (cell_at s (bit_or a (submask_at n mask e))) (conjugate (cell_at s (bit_or b (submask_at n mask e))))

abbrev pub entry_sum : ℕ → List Float → ℕ → ℕ → ℕ → ℕ → Complex
entry_sum n s mask m a b = total m (density_term n s mask a b)
