-- The Schmidt values of a cut: the singular values of the cut matrix, 9 where one is not finite, then the finish. Definitions only.
use Rattle.std.specs.Prelude.{◌≡◌, Result, Bool, false, not, ◌&&◌, List, ℕ, ◌+◌, ◌-◌, ◌*◌, ◌^◌, ◌≤◌, ◌<◌, ltb, eqb, length, Float}
use Rattle.answers.specs.declared.Refusal.{Refusal}
use Rattle.answers.specs.Paper.{Reply, paper, given, done, refuse, and_then, if_done, if_worked, at_end}
use Rattle.complex.specs.Cells.{cells_of, components}
use Rattle.complex.specs.Zeros.{zeros, zeroed}
use Rattle.cut_sides.specs.declared.Sides.{Sides}
use Rattle.cut_sides.specs.Sides.{cut_refusal, side}
use Rattle.cuts.specs.Cut.{cell_of, cut_cell}
use Rattle.svd_columns.specs.Columns.{norms_of, norms_exact}
use Rattle.values.specs.Lists.{all_finite}
use Rattle.finish.specs.declared.Finished.{Finished}
use Rattle.finish.specs.Finish.{finish_of, finish_exact, finish_reply, padded}
use Rattle.finish.specs.Outcome.{no_finish}
use Rattle.svd_thin.specs.Thin.{swept}
use Rattle.sweeps.specs.declared.Sweeps.{Sweeps}
use Rattle.sweeps.specs.Sweeping.{no_sweeps}
use Rattle.cut_values.specs.declared.CutCounted.{CutCounted}
use Rattle.factored.specs.Factored.{kept_sweeps}
use Rattle.svd.specs.Svd.{rows_of, side_of, work_of, s_of, svd_sweeps}

-- ---- the values

-- how many rows and columns the cut matrix has; there are as many values as rows
abbrev pub cut_rows : ℕ → List ℕ → ℕ
cut_rows n l = 2 ^ side l n

abbrev pub cut_columns : ℕ → List ℕ → ℕ
cut_columns n l = 2 ^ (n - side l n)

-- the SVD's values of the cut matrix
unfoldable pub singular_values : List Float → ℕ → List ℕ → List Float
singular_values s n l = s_of (cells_of (2 ^ n) (cut_cell s n l)) (cut_rows n l) (cut_columns n l)

-- how the SVD's sweeps on it went
unfoldable pub cut_sweeps : List Float → ℕ → List ℕ → Sweeps
cut_sweeps s n l = svd_sweeps (cells_of (2 ^ n) (cut_cell s n l)) (cut_rows n l) (cut_columns n l)

-- whether the root of the norm of every column of a matrix's work matrix after the sweeps is exact
unfoldable pub columns_exact : List Float → ℕ → ℕ → Bool
columns_exact a m n = norms_exact (swept (rows_of m n) (side_of m n) (work_of a m n)).work (rows_of m n) (side_of m n)

-- the mark: every root of a column's norm is exact, those of columns that the floor drops too, and so is the root of the final scale
unfoldable pub cut_exact : List Float → ℕ → List ℕ → Bool
cut_exact s n l = columns_exact (cells_of (2 ^ n) (cut_cell s n l)) (cut_rows n l) (cut_columns n l) && finish_exact (singular_values s n l)

-- ---- the answer

abbrev pub cut_values_scratch : ℕ → ℕ → ℕ
cut_values_scratch n rows = 8 * 2 ^ n + 2 * rows

-- 6: the state, slice 0, has exactly 2·2^n numbers; out, slice 2 after the list, at least one for each row; scratch, slice 3, its need
unfoldable pub cut_values_lengths : ℕ → ℕ → ℕ → ℕ → ℕ → Reply
cut_values_lengths n rows state out scratch =
    refuse (not (eqb state (2 * 2 ^ n))) (6, 0) (refuse (ltb out rows) (6, 2) (refuse (ltb scratch (cut_values_scratch n rows)) (6, 3) done))

-- 6 and 7
unfoldable pub cut_values_rest : List Float → ℕ → ℕ → ℕ → ℕ → Reply
cut_values_rest s n rows out scratch = and_then (cut_values_lengths n rows (length s) out scratch) (components 0 s)

-- 1 to 7
unfoldable pub cut_values_tests : List Float → ℕ → List ℕ → ℕ → ℕ → ℕ → Reply
cut_values_tests s n l cap out scratch = and_then (cut_refusal l n cap) (cut_values_rest s n (cut_rows n l) out scratch)

-- 9 where a value is not finite, before any floor is taken; then the finish's 8 or 9
unfoldable pub values_reply : List Float → Reply
values_reply values = refuse (not (all_finite values)) (9, 0) (finish_reply values)

unfoldable pub cut_values_answer : List Float → ℕ → List ℕ → ℕ → ℕ → ℕ → Reply
cut_values_answer s n l cap out scratch = and_then (cut_values_tests s n l cap out scratch) (values_reply (singular_values s n l))

-- of a refusal: no value, no sweep, and the mark is no
abbrev pub no_cut : CutCounted
no_cut = record { count = 0; sweeps = no_sweeps; exact = false }

-- the answer, the count, the sweeps, the mark, and what out and scratch hold at the end
pub record Schmidt (s : List Float) (n : ℕ) (l : List ℕ) (cap : ℕ) (out scratch : List Float) (r : Result CutCounted Refusal) (out' scratch' : List Float) : Type 0 where
  pub answer : paper r ≡ cut_values_answer s n l cap (length out) (length scratch)
  pub count : (given no_cut r).count ≡ if_done (paper r).0 (length (finish_of (singular_values s n l))) 0
  pub out-is : out' ≡ at_end (paper r).0 (padded (cut_rows n l) (finish_of (singular_values s n l)) out) (zeroed (cut_rows n l) out) out
  pub scratch-is : scratch' ≡ if_worked (paper r).0 (zeroed (cut_values_scratch n (cut_rows n l)) scratch) scratch
  pub sweeps-are : (given no_cut r).sweeps ≡ kept_sweeps r (cut_sweeps s n l)
  pub exact-is : (given no_cut r).exact ≡ if_done (paper r).0 (cut_exact s n l) false

-- ---- the steps, over the sides of an accepted cut

pub record CutValuesSized (n : ℕ) (z : Sides) (s : List Float) : Type 0 where
  pub small : n ≤ 12
  pub row_lt : z.row < 2 ^ n
  pub column-lt : z.column < 2 ^ n
  pub product : z.columns * z.rows ≡ 2 ^ n
  pub some : 0 < z.rows
  pub few : z.rows ≤ 64
  pub wide : z.rows ≤ z.columns
  pub state : length s ≡ 2 * 2 ^ n

-- the cut matrix
abbrev pub sides_matrix : List Float → ℕ → Sides → List Float
sides_matrix s n z = cells_of (2 ^ n) (cell_of n z.row z.column z.rows s)

-- the norms of the columns of its work matrix after the sweeps
unfoldable pub norms_after : List Float → ℕ → Sides → List Float
norms_after s n z = norms_of (swept z.columns z.rows (work_of (sides_matrix s n z) z.rows z.columns)).work z.columns z.rows

unfoldable pub singular_of : List Float → ℕ → Sides → List Float
singular_of s n z = s_of (sides_matrix s n z) z.rows z.columns

unfoldable pub sweeps_of : List Float → ℕ → Sides → Sweeps
sweeps_of s n z = svd_sweeps (sides_matrix s n z) z.rows z.columns

unfoldable pub columns_exact_of : List Float → ℕ → Sides → Bool
columns_exact_of s n z = columns_exact (sides_matrix s n z) z.rows z.columns

-- a work matrix whose columns have the norms, and their roots the marks, of the one that the sweeps leave, and the counts of these sweeps
pub record CutValuesSettled (s : List Float) (n : ℕ) (z : Sides) (work : List Float) (r : Sweeps) : Type 0 where
  pub norms : norms_of work z.columns z.rows ≡ norms_after s n z
  pub exact : norms_exact work z.columns z.rows ≡ columns_exact_of s n z
  pub sweeps : r ≡ sweeps_of s n z

-- the values finished, or 9
pub record CutValuesFinished (values old : List Float) (r : Result Finished Refusal) (end : List Float) : Type 0 where
  pub answer : paper r ≡ values_reply values
  pub count : (given no_finish r).count ≡ if_done (paper r).0 (length (finish_of values)) 0
  pub out-is : end ≡ if_done (paper r).0 (padded (length values) (finish_of values) old) (zeroed (length values) old)
  pub exact-is : (given no_finish r).exact ≡ if_done (paper r).0 (finish_exact values) false

pub record CutValuesMade (s : List Float) (n : ℕ) (z : Sides) (old : List Float) (r : Result CutCounted Refusal) (out : List Float) : Type 0 where
  pub answer : paper r ≡ values_reply (singular_of s n z)
  pub count : (given no_cut r).count ≡ if_done (paper r).0 (length (finish_of (singular_of s n z))) 0
  pub out-is : out ≡ if_done (paper r).0 (padded z.rows (finish_of (singular_of s n z)) old) (zeroed z.rows old)
  pub sweeps-are : (given no_cut r).sweeps ≡ kept_sweeps r (sweeps_of s n z)
  pub exact-is : (given no_cut r).exact ≡ if_done (paper r).0 (columns_exact_of s n z && finish_exact (singular_of s n z)) false

pub record CutValuesWorked (s : List Float) (n : ℕ) (z : Sides) (old : List Float) (r : Result CutCounted Refusal) (out scratch : List Float) : Type 0 where
  pub answer : paper r ≡ values_reply (singular_of s n z)
  pub count : (given no_cut r).count ≡ if_done (paper r).0 (length (finish_of (singular_of s n z))) 0
  pub out-is : out ≡ if_done (paper r).0 (padded z.rows (finish_of (singular_of s n z)) old) (zeroed z.rows old)
  pub scratch-is : scratch ≡ zeros (cut_values_scratch n z.rows)
  pub sweeps-are : (given no_cut r).sweeps ≡ kept_sweeps r (sweeps_of s n z)
  pub exact-is : (given no_cut r).exact ≡ if_done (paper r).0 (columns_exact_of s n z && finish_exact (singular_of s n z)) false

-- ---- the call over the sides of an accepted cut, which 1 to 5 do not refuse

-- 6 to 9
unfoldable pub over_answer : List Float → ℕ → Sides → ℕ → ℕ → Reply
over_answer s n z out scratch = and_then (cut_values_rest s n z.rows out scratch) (values_reply (singular_of s n z))

pub record SchmidtOver (s : List Float) (n : ℕ) (z : Sides) (out scratch : List Float) (r : Result CutCounted Refusal) (out' scratch' : List Float) : Type 0 where
  pub answer : paper r ≡ over_answer s n z (length out) (length scratch)
  pub count : (given no_cut r).count ≡ if_done (paper r).0 (length (finish_of (singular_of s n z))) 0
  pub out-is : out' ≡ at_end (paper r).0 (padded z.rows (finish_of (singular_of s n z)) out) (zeroed z.rows out) out
  pub scratch-is : scratch' ≡ if_worked (paper r).0 (zeroed (cut_values_scratch n z.rows) scratch) scratch
  pub sweeps-are : (given no_cut r).sweeps ≡ kept_sweeps r (sweeps_of s n z)
  pub exact-is : (given no_cut r).exact ≡ if_done (paper r).0 (columns_exact_of s n z && finish_exact (singular_of s n z)) false
