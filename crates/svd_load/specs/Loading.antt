-- What the sweeps start from: the matrix as planes, where it is wider than tall its conjugate transpose, and the unit matrix.
-- Assumes nothing.
use Rattle.std.specs.Prelude.{List, ◌++◌, ℕ, zero, suc, ◌+◌, ◌*◌, ◌/◌, ◌%◌, set, Float}
use Rattle.numbers.specs.Numbers.{one_float}
use Rattle.complex.specs.declared.Complex.{Complex}
use Rattle.complex.specs.Arithmetic.{conjugate}
use Rattle.complex.specs.Cells.{cell_at}
use Rattle.complex.specs.Planes.{set_plane}
use Rattle.complex.specs.Zeros.{zeros}
use Rattle.tables.specs.Tables.{table}

-- c cells, the i-th of them f i, as planes: all real parts, then all imaginary parts
unfoldable pub planes_of : ℕ → (ℕ → Complex) → List Float
planes_of c f = table c (λ i. (f i).re) ++ table c (λ i. (f i).im)

-- k cells of c set to f's, from the cell `from` on
unfoldable pub planes_to : ℕ → (ℕ → Complex) → ℕ → ℕ → List Float → List Float
planes_to c f from zero xs = xs
planes_to c f from (suc k) xs = set_plane (planes_to c f from k xs) c (from + k) (f (from + k))

-- the conjugate transpose of an m by n matrix: its columns have n cells, and the cell i stands in row i % n of column i / n
unfoldable pub conjugate_transposed : List Float → ℕ → ℕ → ℕ → Complex
conjugate_transposed a m n i = conjugate (cell_at a (i % n * m + i / n))

-- the first k cells of the diagonal of n columns set to 1, in the real plane
unfoldable pub unit_to : ℕ → List Float → ℕ → List Float
unit_to n xs zero = xs
unit_to n xs (suc k) = set (unit_to n xs k) (k * n + k) one_float

unfoldable pub unit_planes : ℕ → List Float
unit_planes n = unit_to n (zeros (2 * (n * n))) n
