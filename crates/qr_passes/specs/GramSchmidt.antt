-- Modified Gram-Schmidt on a column-major matrix: q holds orthonormal columns of `rows` cells, column-major, and r is
-- row-major, `cols` cells to a row. Each definition is one loop of the Rust, its operations in the Rust's order.
-- Assumes nothing.
use Rattle.std.specs.Prelude.{◌≡◌, cond, ◌&&◌, List, ℕ, zero, suc, ◌+◌, ◌*◌, min, max, ltb, Float}
use Rattle.std.specs.Float.Ieee as Ieee
use Rattle.std.specs.Float.{binary64}
use Rattle.std.specs.Float.Ieee.{of_bits}
use Rattle.complex.specs.declared.Complex.{Complex}
use Rattle.complex.specs.Arithmetic.{complex_of, sum_of}
use Rattle.complex.specs.Cells.{cell_at, set_cell}
use Rattle.complex.specs.Zeros.{zero_float, zeros}
use Rattle.qr_column.specs.Dot.{dot_of}
use Rattle.qr_column.specs.Columns.{column_of, norm_of, lessened, scaled_into}

abbrev pub one_float : Float
one_float = of_bits binary64 0x3ff0_0000_0000_0000

-- 0.5: a pass that leaves more than this part of the norm before it is the last
abbrev pub retain : Float
retain = of_bits binary64 0x3fe0_0000_0000_0000

-- 1e-14: a column of which no more than this part is left adds no direction
abbrev pub rank_floor : Float
rank_floor = of_bits binary64 0x3d06_849b_86a1_2b9b

-- ---- one column against the basis

-- the column that is worked on, and r
pub record Held : Type 0 where
  pub v : List Float
  pub r : List Float

abbrev pub held : List Float → List Float → Held
held v r = record { v = v; r = r }

-- v loses d times the basis column that starts at the cell o, and the cell `at` of r gains d
unfoldable pub projected_by : List Float → ℕ → ℕ → ℕ → Held → Complex → Held
projected_by q o rows at s d = held (lessened s.v q o rows d) (set_cell s.r at (sum_of (cell_at s.r at) d))

-- where d is the dot product of that basis column with v
unfoldable pub projected : List Float → ℕ → ℕ → ℕ → Held → Held
unfolding projected_by
projected q o rows at s = projected_by q o rows at s (dot_of q o s.v rows)

-- one pass of the column j: the first i basis columns in rising order
unfoldable pub pass_to : List Float → ℕ → ℕ → ℕ → Held → ℕ → Held
unfolding projected
pass_to q rows cols j s zero = s
pass_to q rows cols j s (suc i) = projected q (i * rows) rows (i * cols + j) (pass_to q rows cols j s i)

-- after the passes, with what is left of the norm
pub record Passed : Type 0 where
  pub end : Held
  pub residual : Float

abbrev pub passed : Held → Float → Passed
passed s x = record { end = s; residual = x }

-- at most so many passes more; `previous` is the norm before the next one, and the passes end with the first
-- that leaves more than half of it
unfoldable pub passes : List Float → ℕ → ℕ → ℕ → ℕ → ℕ → Float → Held → Passed
unfolding pass_to
passes q rank rows cols j zero previous s = passed s previous
passes q rank rows cols j (suc k) previous s =
    cond (Ieee.lt (Ieee.mul binary64 retain previous) (norm_of (pass_to q rows cols j s rank).v rows))
    (passed (pass_to q rows cols j s rank) (norm_of (pass_to q rows cols j s rank).v rows))
    (passes q rank rows cols j k (norm_of (pass_to q rows cols j s rank).v rows) (pass_to q rows cols j s rank))

-- ---- the columns in order

pub record Factors : Type 0 where
  pub q : List Float
  pub r : List Float
  pub rank : ℕ

abbrev pub factors : List Float → List Float → ℕ → Factors
factors q r k = record { q = q; r = r; rank = k }

-- v times 1 / residual becomes the basis column that starts at the cell o
unfoldable pub new_basis : List Float → Float → ℕ → ℕ → List Float → List Float
new_basis v residual rows o q = scaled_into v (Ieee.div binary64 one_float residual) q o rows

-- the column becomes the next basis column, and what was left of its norm stands in r
unfoldable pub kept_column : ℕ → ℕ → ℕ → List Float → ℕ → Passed → Factors
unfolding new_basis
kept_column rows cols j q rank p =
    factors
    (new_basis p.end.v p.residual rows (rank * rows) q)
    (set_cell p.end.r (rank * cols + j) (complex_of p.residual zero_float))
    (rank + 1)

-- where the rank is below the cap and more than the floor's part of its norm was left; else only r has changed
unfoldable pub judged : ℕ → ℕ → ℕ → ℕ → Float → List Float → ℕ → Passed → Factors
unfolding kept_column
judged rows cols cap j norm q rank p =
    cond (ltb rank cap && Ieee.lt (Ieee.mul binary64 rank_floor norm) p.residual) (kept_column rows cols j q rank p) (factors q p.end.r rank)

-- the column j of a
unfoldable pub add_column : List Float → ℕ → ℕ → ℕ → ℕ → Factors → Factors
unfolding judged passes
add_column a rows cols cap j f =
    judged rows cols cap j (norm_of (column_of a (j * rows) rows) rows) f.q f.rank
    (passes f.q f.rank rows cols j 3 (norm_of (column_of a (j * rows) rows) rows) (held (column_of a (j * rows) rows) f.r))

-- the column j as the code has it between its passes and its judgement: its norm, and what the passes left
pub record PassesWorked (a : List Float) (rows cols j : ℕ) (q r : List Float) (rank : ℕ) (norm residual : Float) (v' r' : List Float) : Type 0 where
  pub norm-is : norm ≡ norm_of (column_of a (j * rows) rows) rows
  pub passes-are : passed (held v' r') residual ≡ passes q rank rows cols j 3 norm (held (column_of a (j * rows) rows) r)

-- the first j columns
unfoldable pub qr_columns_to : List Float → ℕ → ℕ → ℕ → Factors → ℕ → Factors
unfolding add_column
qr_columns_to a rows cols cap f zero = f
qr_columns_to a rows cols cap f (suc j) = add_column a rows cols cap j (qr_columns_to a rows cols cap f j)

-- a matrix with no direction to keep: q's first column is the first basis vector and the rank is 1
unfoldable pub basis_for : ℕ → List Float → List Float
basis_for zero q = set_cell q 0 (complex_of one_float zero_float)
basis_for (suc k) q = q

unfoldable pub with_basis : Factors → Factors
unfolding basis_for
with_basis f = factors (basis_for f.rank f.q) f.r (max 1 f.rank)

-- how many columns q has, and rows r
abbrev pub cap_of : ℕ → ℕ → ℕ
cap_of rows cols = min rows cols

-- the factors of a; what the rank leaves of q and r is +0.0
unfoldable pub qr_factors : List Float → ℕ → ℕ → Factors
unfolding qr_columns_to with_basis
qr_factors a rows cols =
    with_basis
    (qr_columns_to a rows cols (cap_of rows cols) (factors (zeros (2 * (cap_of rows cols * rows))) (zeros (2 * (cap_of rows cols * cols))) 0) cols)
