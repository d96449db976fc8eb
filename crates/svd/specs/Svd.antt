-- The SVD of an m by n matrix: its refusals, its three factors, and what each lent list holds at the end. Assumes nothing.
use Rattle.std.specs.Prelude.{◌≡◌, Result, Bool, not, cond, ◌&&◌, List, ◌++◌, ℕ, ◌+◌, ◌*◌, ◌≤◌, ltb, length, drop, Float}
use Rattle.answers.specs.Paper.{Answer, Reply, paper, given, done, refuse, and_then, if_done, if_worked, at_end, exactly, room}
use Rattle.matrix_sizes.specs.Sizes.{matrix_sizes}
unfoldable pub use Rattle.matrix_sizes.specs.Sizes.{side_of, rows_of}
use Rattle.complex.specs.Cells.{cell_at, components}
use Rattle.complex.specs.Zeros.{zeros, zeroed}
use Rattle.svd_load.specs.Loading.{planes_of, conjugate_transposed}
use Rattle.svd_columns.specs.Columns.{directions_of, v_columns_of}
use Rattle.values.specs.Lists.{all_finite}
use Rattle.sweeps.specs.declared.Sweeps.{Sweeps}
use Rattle.svd_thin.specs.Thin.{swept, order_of, values_of}
use Rattle.answers.specs.declared.Refusal.{Refusal}
use Rattle.sweeps.specs.Sweeping.{no_sweeps}
use Rattle.factored.specs.Factored.{kept_sweeps}

-- ---- the sizes: the smaller and the larger one are the columns and the rows of the work matrix

-- the needed lengths, in numbers
abbrev pub need_u : ℕ → ℕ → ℕ
need_u m n = 2 * (m * side_of m n)

abbrev pub need_vt : ℕ → ℕ → ℕ
need_vt m n = 2 * (side_of m n * n)

abbrev pub svd_scratch : ℕ → ℕ → ℕ
svd_scratch m n = 6 * (m * n) + 2 * side_of m n

-- ---- the refusals, in the paper's order

unfoldable pub svd_lengths : ℕ → ℕ → ℕ → ℕ → ℕ → ℕ → ℕ → Reply
svd_lengths m n a u s vt scratch =
    and_then (exactly 0 a (2 * (m * n)))
    (and_then (room 1 u (need_u m n)) (and_then (room 2 s (side_of m n)) (and_then (room 3 vt (need_vt m n)) (room 4 scratch (svd_scratch m n)))))

unfoldable pub svd_tests : List Float → ℕ → ℕ → ℕ → ℕ → ℕ → ℕ → Reply
svd_tests a m n u s vt scratch = and_then (matrix_sizes m n) (and_then (svd_lengths m n (length a) u s vt scratch) (components 0 a))

-- ---- the factors

-- the work matrix: a itself, or where it is wider than tall its conjugate transpose
unfoldable pub work_of : List Float → ℕ → ℕ → List Float
work_of a m n = cond (ltb m n) (planes_of (m * n) (conjugate_transposed a m n)) (planes_of (n * m) (cell_at a))

-- the columns after the sweeps, scaled and in order
unfoldable pub directions : List Float → ℕ → ℕ → List Float
directions a m n =
    let t = (swept (rows_of m n) (side_of m n) (work_of a m n)).work in
    directions_of t (values_of (rows_of m n) (side_of m n) t) (order_of (rows_of m n) (side_of m n) t) (rows_of m n) (side_of m n) (ltb m n)

-- V after the sweeps, conjugated and in order
unfoldable pub v_columns : List Float → ℕ → ℕ → List Float
v_columns a m n =
    let t = swept (rows_of m n) (side_of m n) (work_of a m n) in
    v_columns_of t.v (order_of (rows_of m n) (side_of m n) t.work) (side_of m n) (ltb m n)

unfoldable pub u_of : List Float → ℕ → ℕ → List Float
u_of a m n = cond (ltb m n) (v_columns a m n) (directions a m n)

unfoldable pub s_of : List Float → ℕ → ℕ → List Float
s_of a m n = values_of (rows_of m n) (side_of m n) (swept (rows_of m n) (side_of m n) (work_of a m n)).work

unfoldable pub vt_of : List Float → ℕ → ℕ → List Float
vt_of a m n = cond (ltb m n) (directions a m n) (v_columns a m n)

-- how the sweeps went
unfoldable pub svd_sweeps : List Float → ℕ → ℕ → Sweeps
svd_sweeps a m n = (swept (rows_of m n) (side_of m n) (work_of a m n)).sweeps

-- ---- the answer

unfoldable pub finite_factors : List Float → List Float → List Float → Bool
finite_factors u s vt = all_finite u && (all_finite s && all_finite vt)

-- 9 where a number of a factor is not finite
unfoldable pub svd_end : List Float → List Float → List Float → Reply
svd_end u s vt = refuse (not (finite_factors u s vt)) (9, 0) done

unfoldable pub svd_answer : List Float → ℕ → ℕ → ℕ → ℕ → ℕ → ℕ → Reply
svd_answer a m n u s vt scratch = and_then (svd_tests a m n u s vt scratch) (svd_end (u_of a m n) (s_of a m n) (vt_of a m n))

-- the answer, the sweeps, and what u, s, vt and scratch hold at the end
pub record Svd (a : List Float) (m n : ℕ) (u s vt scratch : List Float) (r : Result Sweeps Refusal) (u' s' vt' scratch' : List Float) : Type 0 where
  pub answer : paper r ≡ svd_answer a m n (length u) (length s) (length vt) (length scratch)
  pub u-is : u' ≡ at_end (paper r).0 (u_of a m n ++ drop (need_u m n) u) (zeroed (need_u m n) u) u
  pub s-is : s' ≡ at_end (paper r).0 (s_of a m n ++ drop (side_of m n) s) (zeroed (side_of m n) s) s
  pub vt_is : vt' ≡ at_end (paper r).0 (vt_of a m n ++ drop (need_vt m n) vt) (zeroed (need_vt m n) vt) vt
  pub scratch-is : scratch' ≡ if_worked (paper r).0 (zeroed (svd_scratch m n) scratch) scratch
  pub sweeps-are : given no_sweeps r ≡ kept_sweeps r (svd_sweeps a m n)

-- ---- the steps

-- the sizes and lengths of an accepted call, over slices of exactly the needed lengths
pub record SvdExact (m n a u s vt scratch : ℕ) : Type 0 where
  pub rows : 1 ≤ m
  pub columns : 1 ≤ n
  pub cells : m * n ≤ 4096
  pub a-is : a ≡ 2 * (m * n)
  pub u-is : u ≡ need_u m n
  pub s-is : s ≡ side_of m n
  pub vt_is : vt ≡ need_vt m n
  pub scratch-is : scratch ≡ svd_scratch m n

pub record SvdFactored (a : List Float) (m n : ℕ) (r : Sweeps) (u s vt : List Float) : Type 0 where
  pub u-is : u ≡ u_of a m n
  pub s-is : s ≡ s_of a m n
  pub vt_is : vt ≡ vt_of a m n
  pub sweeps-are : r ≡ svd_sweeps a m n

pub record SvdFinished (u s vt : List Float) (r : Answer) (u' s' vt' : List Float) : Type 0 where
  pub answer : paper r ≡ svd_end u s vt
  pub u-is : u' ≡ if_done (paper r).0 u (zeros (length u))
  pub s-is : s' ≡ if_done (paper r).0 s (zeros (length s))
  pub vt_is : vt' ≡ if_done (paper r).0 vt (zeros (length vt))

pub record SvdWorked (a : List Float) (m n : ℕ) (r : Result Sweeps Refusal) (u s vt scratch : List Float) : Type 0 where
  pub answer : paper r ≡ svd_end (u_of a m n) (s_of a m n) (vt_of a m n)
  pub u-is : u ≡ if_done (paper r).0 (u_of a m n) (zeros (need_u m n))
  pub s-is : s ≡ if_done (paper r).0 (s_of a m n) (zeros (side_of m n))
  pub vt_is : vt ≡ if_done (paper r).0 (vt_of a m n) (zeros (need_vt m n))
  pub scratch-is : scratch ≡ zeros (svd_scratch m n)
  pub sweeps-are : given no_sweeps r ≡ kept_sweeps r (svd_sweeps a m n)
