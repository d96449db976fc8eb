-- `normalize_trace`: the trace, the matrix multiplied by its reciprocal, and the answer. Assumes nothing.
use Rattle.std.specs.Prelude.{Bool, true, not, ◌&&◌, List, ℕ, zero, suc, ◌*◌, Float}
use Rattle.std.specs.Float.Ieee as Ieee
use Rattle.std.specs.Float.{binary64}
use Rattle.answers.specs.Paper.{Reply, done, refuse, and_then}
use Rattle.numbers.specs.Numbers.{is_finite, one_float}
use Rattle.complex.specs.declared.Complex.{Complex}
use Rattle.complex.specs.Arithmetic.{scaled}
use Rattle.complex.specs.Cells.{cell_at, written}
use Rattle.complex.specs.Zeros.{zero_float}
use Rattle.density_entries.specs.Squares.{entry_at}
use Rattle.densities.specs.Square.{square_answer}

-- the real parts of the first t diagonal entries, added in rising order; a sum of the Rust starts at -0.0
unfoldable pub trace_to : List Float → ℕ → ℕ → Float
trace_to s dim zero = Ieee.neg zero_float
trace_to s dim (suc t) = Ieee.add binary64 (trace_to s dim t) (entry_at s dim t t).re

abbrev pub trace_of : List Float → ℕ → Float
trace_of s dim = trace_to s dim dim

-- 1 / trace
abbrev pub reciprocal : Float → Float
reciprocal x = Ieee.div binary64 one_float x

-- the k-th cell by a real number
abbrev pub scaled_cell : List Float → Float → ℕ → Complex
scaled_cell s x k = scaled (cell_at s k) x

-- every number of the first m cells is finite
unfoldable pub finite_cells : ℕ → (ℕ → Complex) → Bool
finite_cells zero f = true
finite_cells (suc m) f = finite_cells m f && (is_finite (f m).re && is_finite (f m).im)

-- 8: the trace is zero; 9: a number of the result is not finite
abbrev pub scaling_answer : List Float → ℕ → Reply
scaling_answer s dim =
    refuse (Ieee.eq (trace_of s dim) zero_float) (8, 0)
    (refuse (not (finite_cells (dim * dim) (scaled_cell s (reciprocal (trace_of s dim))))) (9, 0) done)

-- 1, 6 and 7 of the matrix, then 8 and 9
abbrev pub normalize_answer : List Float → ℕ → Reply
normalize_answer s dim = and_then (square_answer s dim) (scaling_answer s dim)

-- the matrix with each cell multiplied by 1 / trace
abbrev pub normalized : List Float → ℕ → List Float
normalized s dim = written (dim * dim) (scaled_cell s (reciprocal (trace_of s dim))) s
