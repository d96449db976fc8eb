-- The matrix that is factored: the given one, column-major, shifted past its spectral radius. Definitions only.
use Rattle.std.specs.Prelude.{Bool, cond, List, ℕ, zero, suc, ◌*◌, ◌/◌, ◌%◌, eqb, pos, Float}
use Rattle.std.specs.Float.{binary64}
use Rattle.std.specs.Float.Ieee.{add, mul, of_int}
use Rattle.complex.specs.declared.Complex.{Complex}
use Rattle.complex.specs.Arithmetic.{complex_of}
use Rattle.modulus.specs.Modulus.{modulus_of}
use Rattle.complex.specs.Cells.{cell_at, cells_of}
use Rattle.complex.specs.Zeros.{zero_float}
use Rattle.numbers.specs.Numbers.{one_float, larger_of}

-- the largest modulus of the first k cells, and at least +0.0
unfoldable pub peak_to : List Float → ℕ → Float
peak_to a zero = zero_float
peak_to a (suc k) = larger_of (peak_to a k) (modulus_of (cell_at a k))

-- peak * dim + 1
unfoldable pub shift_of : List Float → ℕ → Float
shift_of a dim = add binary64 (mul binary64 (peak_to a (dim * dim)) (of_int binary64 (pos dim))) one_float

-- on the diagonal the shift is added to the real part
unfoldable pub shifted_cell : Float → Bool → Complex → Complex
shifted_cell shift diagonal z = cond diagonal (complex_of (add binary64 z.re shift) z.im) z

-- the cell i, which stands in row i % dim of column i / dim
unfoldable pub shifted_at : Float → List Float → ℕ → ℕ → Complex
shifted_at shift a dim i = shifted_cell shift (eqb (i / dim) (i % dim)) (cell_at a i)

-- the shifted matrix
unfoldable pub shifted_of : List Float → ℕ → List Float
shifted_of a dim = cells_of (dim * dim) (shifted_at (shift_of a dim) a dim)
