-- The dot product of a basis column and a vector in four sums: row t of a whole quad of rows goes to the sum t % 4,
-- a tail of at most three rows goes to the first sum, and the sums are joined as (0 + 1) + (2 + 3). Assumes nothing.
use Rattle.std.specs.Prelude.{List, ℕ, zero, suc, ◌+◌, ◌*◌, ◌/◌, ◌%◌, Float}
use Rattle.complex.specs.declared.Complex.{Complex}
use Rattle.complex.specs.Arithmetic.{complex_of, product, sum_of, conjugate}
use Rattle.complex.specs.Cells.{cell_at}
use Rattle.complex.specs.Zeros.{zero_float}
use Rattle.qr_column.specs.declared.Sums.{Sums}

abbrev zero_cell : Complex
zero_cell = complex_of zero_float zero_float

unfoldable pub no_sums : Sums
no_sums = record { sum0 = zero_cell; sum1 = zero_cell; sum2 = zero_cell; sum3 = zero_cell }

-- one term to each sum
unfoldable pub add_quad : Sums → Complex → Complex → Complex → Complex → Sums
add_quad s x y z w = record { sum0 = sum_of s.sum0 x; sum1 = sum_of s.sum1 y; sum2 = sum_of s.sum2 z; sum3 = sum_of s.sum3 w }

-- a term to the first sum
unfoldable pub add_first : Sums → Complex → Sums
add_first s x = record { sum0 = sum_of s.sum0 x; sum1 = s.sum1; sum2 = s.sum2; sum3 = s.sum3 }

unfoldable pub joined : Sums → Complex
joined s = sum_of (sum_of s.sum0 s.sum1) (sum_of s.sum2 s.sum3)

-- row t of the column of q that starts at the cell o, conjugated, times row t of v
unfoldable pub dot_term : List Float → ℕ → List Float → ℕ → Complex
dot_term q o v t = product (conjugate (cell_at q (o + t))) (cell_at v t)

-- the first k quads
unfoldable pub quads_to : List Float → ℕ → List Float → ℕ → Sums
quads_to q o v zero = no_sums
quads_to q o v (suc k) =
    add_quad (quads_to q o v k) (dot_term q o v (4 * k)) (dot_term q o v (4 * k + 1)) (dot_term q o v (4 * k + 2)) (dot_term q o v (4 * k + 3))

-- then k rows from row s on
unfoldable pub tail_to : List Float → ℕ → List Float → ℕ → Sums → ℕ → Sums
tail_to q o v s sums zero = sums
tail_to q o v s sums (suc k) = add_first (tail_to q o v s sums k) (dot_term q o v (s + k))

unfoldable pub dot_of : List Float → ℕ → List Float → ℕ → Complex
dot_of q o v rows = joined (tail_to q o v (4 * (rows / 4)) (quads_to q o v (rows / 4)) (rows % 4))
