-- A strided source, the cells of it that a fill copies, and the site that they become. Assumes nothing.
use Rattle.std.specs.Prelude.{Bool, not, ◌&&◌, List, ℕ, zero, suc, ◌+◌, ◌*◌, ◌/◌, ◌%◌, ◌≤◌, Float, get_or}
use Rattle.std.specs.Float.{nan}
use Rattle.answers.specs.Paper.{Reply, done, refuse, and_then}
use Rattle.numbers.specs.Numbers.{allowed}
use Rattle.complex.specs.declared.Complex.{Complex}
use Rattle.complex.specs.Arithmetic.{complex_of, product, scaled}
use Rattle.complex.specs.Cells.{cell_at, set_cell}
use Rattle.complex.specs.Zeros.{zero_float}

-- cell j of line i of a source whose lines start stride cells apart
unfoldable pub line_cell : List Float → ℕ → ℕ → ℕ → Complex
line_cell s stride i j = cell_at s (i * stride + j)

-- ---- 7: the first cell that is copied and not allowed, by its number in the source

unfoldable pub cell_allowed : Complex → Bool
cell_allowed z = allowed z.re && allowed z.im

-- the cells from `at` on, so many
unfoldable pub cells_from : List Float → ℕ → ℕ → Reply
unfolding cell_allowed
cells_from s at zero = done
cells_from s at (suc n) = refuse (not (cell_allowed (cell_at s at))) (7, at) (cells_from s (suc at) n)

-- the first `width` cells of the lines from line i on, so many
unfoldable pub lines_from : List Float → ℕ → ℕ → ℕ → ℕ → Reply
unfolding cells_from
lines_from s stride width i zero = done
lines_from s stride width i (suc n) = and_then (cells_from s (i * stride) width) (lines_from s stride width (suc i) n)

-- ---- lines of the site

-- the cells base, base + 1, .. become g's, n of them
unfoldable pub put_line : (ℕ → Complex) → ℕ → List Float → ℕ → List Float
put_line g base old zero = old
put_line g base old (suc n) = set_cell (put_line g base old n) (base + n) (g n)

-- ---- the site: cell k stands in row k / width, at k % width of it

unfoldable pub site_cell : ℕ → (ℕ → ℕ → Complex) → ℕ → Complex
site_cell width f k = f (k / width) (k % width)

-- orthonormal columns: row alpha·2 + i of column gamma
unfoldable pub isometry_cell : List Float → ℕ → ℕ → ℕ → Complex
unfolding line_cell
isometry_cell columns stride row gamma = line_cell columns stride gamma row

-- the same times the real value gamma
unfoldable pub scaled_u_cell : List Float → List Float → ℕ → ℕ → ℕ → Complex
unfolding line_cell
scaled_u_cell u s stride row gamma = scaled (line_cell u stride gamma row) (get_or s gamma nan)

-- orthonormal rows: cell c of row gamma
unfoldable pub vt_cell : List Float → ℕ → ℕ → ℕ → Complex
unfolding line_cell
vt_cell vt row_length gamma c = line_cell vt row_length gamma c

-- the same times the complex number (value gamma, 0)
unfoldable pub scaled_vt_cell : List Float → List Float → ℕ → ℕ → ℕ → Complex
unfolding line_cell
scaled_vt_cell s vt row_length gamma c = product (complex_of (get_or s gamma nan) zero_float) (line_cell vt row_length gamma c)

-- what the inner loops ask: chi lines of stride cells in `source` numbers, a site of width·chi cells in `room` numbers
pub record LineReady (stride width chi source room : ℕ) : Type 0 where
  pub stride-small : stride ≤ 4096
  pub chi-small : chi ≤ 4096
  pub inside : width ≤ stride
  pub few : width * chi ≤ 4096
  pub lines : 2 * (chi * stride) ≤ source
  pub site : 2 * (width * chi) ≤ room
