-- What is made of the columns after the sweeps: their norms, the columns scaled to length 1, V's columns conjugated, each in the order of the
-- norms. Every float operation as the Rust has it. Assumes nothing.
use Rattle.std.specs.Prelude.{Bool, cond, List, ℕ, ◌+◌, ◌*◌, ◌/◌, ◌%◌, get_or, Float}
use Rattle.std.specs.Float.Ieee as Ieee
use Rattle.std.specs.Float.{nan, binary64}
use Rattle.std.specs.Float.Ieee.{of_bits, lt}
use Rattle.numbers.specs.Root.{sqrt_of}
use Rattle.complex.specs.declared.Complex.{Complex}
use Rattle.complex.specs.Arithmetic.{complex_of, conjugate, scaled}
use Rattle.complex.specs.Cells.{cells_of}
use Rattle.complex.specs.Planes.{plane_at}
use Rattle.complex.specs.Squares.{squares_to}
use Rattle.complex.specs.Zeros.{zero_float}
use Rattle.tables.specs.Tables.{table}
use Rattle.exact_roots.specs.Exact.{all_exact}
use Rattle.numbers.specs.Numbers.{one_float}

-- the cells from the cell `at` on
abbrev pub plane_from : List Float → ℕ → ℕ → ℕ → Complex
plane_from work c at k = plane_at work c (at + k)

-- the norm of each of `side` columns of `rows` cells
unfoldable pub norms_of : List Float → ℕ → ℕ → List Float
norms_of work rows side = table side (λ j. sqrt_of (squares_to (plane_from work (side * rows) (j * rows)) rows))

-- whether the root of each of these norms is exact
unfoldable pub norms_exact : List Float → ℕ → ℕ → Bool
norms_exact work rows side = all_exact side (λ j. squares_to (plane_from work (side * rows) (j * rows)) rows)

-- a norm at or below this leaves its column zero. The paper does not give the value: it stands in, and only that it is positive is used
unfoldable pub norm_clamp_min : Float
norm_clamp_min = of_bits binary64 0x39b4_484b_feeb_c2a0

-- a cell times the reciprocal of its column's norm
unfoldable pub unit_length : Float → Complex → Complex
unit_length norm z = cond (lt norm_clamp_min norm) (scaled z (Ieee.div binary64 one_float norm)) (complex_of zero_float zero_float)

-- a cell of U; in the wide case, conjugated, of V†
unfoldable pub direction_of : Bool → Float → Complex → Complex
direction_of wide norm z = cond wide (conjugate (unit_length norm z)) (unit_length norm z)

-- a cell of V†: V's, conjugated; in the wide case, conjugated again, of U
unfoldable pub v_cell : Bool → Complex → Complex
v_cell wide z = cond wide (conjugate (conjugate z)) (conjugate z)

-- columns of `rows` cells: the cell x stands in row x % rows of column x / rows
unfoldable pub in_columns : ℕ → (ℕ → ℕ → Complex) → ℕ → Complex
in_columns rows f x = f (x / rows) (x % rows)

-- the columns of the work matrix in order, each scaled by its value: values[j] is the norm of the column order[j]
unfoldable pub directions_of : List Float → List Float → List ℕ → ℕ → ℕ → Bool → List Float
directions_of work values order rows side wide =
    cells_of (side * rows) (in_columns rows (λ j r. direction_of wide (get_or values j nan) (plane_at work (side * rows) (get_or order j 0 * rows + r))))

-- the columns of V, in order
unfoldable pub v_columns_of : List Float → List ℕ → ℕ → Bool → List Float
v_columns_of v order side wide =
    cells_of (side * side) (in_columns side (λ j r. v_cell wide (plane_at v (side * side) (get_or order j 0 * side + r))))

-- the values, in order
unfoldable pub sorted_of : List Float → List ℕ → ℕ → List Float
sorted_of norms order side = table side (λ j. get_or norms (get_or order j 0) nan)
