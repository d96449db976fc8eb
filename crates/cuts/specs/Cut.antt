-- The cut matrix: its cells, its answer, and what a call leaves behind. Assumes nothing.
use Rattle.std.specs.Prelude.{not, ◌≡◌, List, ℕ, zero, suc, ◌+◌, ◌*◌, ◌/◌, ◌%◌, ◌^◌, ◌≤◌, ◌<◌, ltb, eqb, Float, length}
use Rattle.std.specs.Int.Bits.{bit_or}
use Rattle.answers.specs.Paper.{Answer, Reply, paper, done, refuse, and_then, if_done}
use Rattle.submasks.specs.Submasks.{submask_at}
use Rattle.complex.specs.declared.Complex.{Complex}
use Rattle.complex.specs.Cells.{cell_at, set_cell, written, components}
use Rattle.cut_sides.specs.declared.Sides.{Sides}
use Rattle.cut_sides.specs.Sides.{cut_refusal, side, row_mask, column_mask}

-- ---- the matrix, column after column

-- the amplitude of row j and column c of two masks: their j-th and c-th submasks' union
abbrev pub amplitude : ℕ → ℕ → ℕ → List Float → ℕ → ℕ → Complex
amplitude n row column s j c = cell_at s (bit_or (submask_at n row j) (submask_at n column c))

-- the k-th cell of a matrix of that many rows
abbrev pub cell_of : ℕ → ℕ → ℕ → ℕ → List Float → ℕ → Complex
cell_of n row column rows s k = amplitude n row column s (k % rows) (k / rows)

abbrev pub cut_cell : List Float → ℕ → List ℕ → ℕ → Complex
cut_cell s n l = cell_of n (row_mask l n) (column_mask l n) (2 ^ side l n) s

-- the number of the amplitude that the k-th cell holds
abbrev pub source_of : ℕ → List ℕ → ℕ → ℕ
source_of n l k = bit_or (submask_at n (row_mask l n) (k % 2 ^ side l n)) (submask_at n (column_mask l n) (k / 2 ^ side l n))

-- ---- the answer

-- 6: the state, slice 0, has exactly 2·2^n numbers, and the matrix, slice 2 after the list, at least as many
abbrev pub cut_lengths : ℕ → ℕ → ℕ → Reply
cut_lengths n state out = refuse (not (eqb state (2 * 2 ^ n))) (6, 0) (refuse (ltb out (2 * 2 ^ n)) (6, 2) done)

-- 6 and 7
abbrev pub cut_rest : List Float → ℕ → ℕ → Reply
cut_rest s n out = and_then (cut_lengths n (length s) out) (components 0 s)

-- 1 to 7
abbrev pub cut_answer : List Float → ℕ → List ℕ → ℕ → ℕ → Reply
cut_answer s n l cap out = and_then (cut_refusal l n cap) (cut_rest s n out)

-- a call of `cut_matrix`: the answer r, and what out holds at the end
pub record CutMatrix (s : List Float) (n : ℕ) (l : List ℕ) (cap : ℕ) (o : List Float) (r : Answer) (end : List Float) : Type 0 where
  pub answer : paper r ≡ cut_answer s n l cap (length o)
  pub cells : end ≡ if_done (cut_answer s n l cap (length o)).0 (written (2 ^ n) (cut_cell s n l) o) o

-- ---- what the inner functions ask and leave

-- the matrix over the sides of an accepted cut, which only 6 and 7 refuse
pub record CutOver (s : List Float) (n : ℕ) (z : Sides) (o : List Float) (r : Answer) (end : List Float) : Type 0 where
  pub answer : paper r ≡ cut_rest s n (length o)
  pub cells : end ≡ if_done (cut_rest s n (length o)).0 (written (2 ^ n) (cell_of n z.row z.column z.rows s) o) o

-- the cells from `at` on set to f's, m of them
unfoldable pub set_cells : ℕ → (ℕ → Complex) → ℕ → List Float → List Float
set_cells at f zero xs = xs
set_cells at f (suc m) xs = set_cell (set_cells at f m xs) (at + m) (f m)

-- masks, sizes and lengths as the gather wants them
pub record CutReady (n row column rows columns : ℕ) (s o : List Float) : Type 0 where
  pub small : n ≤ 12
  pub row_lt : row < 2 ^ n
  pub column-lt : column < 2 ^ n
  pub product : columns * rows ≡ 2 ^ n
  pub some : 0 < rows
  pub state : length s ≡ 2 * 2 ^ n
  pub room : 2 * 2 ^ n ≤ length o

-- and one column of it, from the cell `at` on; `bits` is the column's submask
pub record ColumnReady (n row rows bits at : ℕ) (s o : List Float) : Type 0 where
  pub small : n ≤ 12
  pub row_lt : row < 2 ^ n
  pub bits-lt : bits < 2 ^ n
  pub state : length s ≡ 2 * 2 ^ n
  pub last : at + rows ≤ 2 ^ n
  pub room : 2 * 2 ^ n ≤ length o
