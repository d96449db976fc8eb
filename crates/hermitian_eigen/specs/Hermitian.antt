-- The eigenvalues and eigenvectors of a Hermitian matrix: the refusals, the results, and what each lent list holds at the end.
-- Definitions only.
use Rattle.std.specs.Prelude.{◌≡◌, Result, Bool, not, ◌&&◌, List, ◌++◌, ℕ, ◌+◌, ◌-◌, ◌*◌, ◌≤◌, ltb, eqb, length, get_or, drop, Float}
use Rattle.std.specs.Float.{nan, binary64}
use Rattle.std.specs.Float.Ieee.{sub}
use Rattle.answers.specs.declared.Refusal.{Refusal}
use Rattle.answers.specs.Paper.{Answer, Reply, paper, given, done, refuse, and_then, if_done, if_worked, at_end}
use Rattle.complex.specs.Cells.{cell_at, cells_of, components}
use Rattle.complex.specs.Zeros.{zeros, zeroed}
use Rattle.tables.specs.Tables.{table}
use Rattle.svd_columns.specs.Columns.{in_columns}
use Rattle.values.specs.Lists.{all_finite}
use Rattle.sweeps.specs.declared.Sweeps.{Sweeps}
use Rattle.sweeps.specs.Sweeping.{no_sweeps}
use Rattle.factored.specs.Factored.{kept_sweeps}
use Rattle.svd.specs.Svd.{u_of, s_of, svd_sweeps}
use Rattle.hermitian_eigen.specs.Shifted.{shift_of, shifted_of}

-- ---- the refusals, in the paper's order

-- the needed lengths, in numbers: `dim` values, and
abbrev pub need_vectors : ℕ → ℕ
need_vectors dim = 2 * (dim * dim)

abbrev pub hermitian_scratch : ℕ → ℕ
hermitian_scratch dim = 6 * (dim * dim) + 2 * dim

-- 1: the side; 6: the matrix is slice 0, the values 1, the vectors 2, scratch 3; 7
unfoldable pub hermitian_tests : List Float → ℕ → ℕ → ℕ → ℕ → Reply
hermitian_tests a dim values vectors scratch =
    refuse (ltb dim 1) (1, 0)
    (refuse (ltb 64 dim) (1, 0)
    (refuse (not (eqb (length a) (2 * (dim * dim)))) (6, 0)
    (refuse (ltb values dim) (6, 1)
    (refuse (ltb vectors (need_vectors dim)) (6, 2) (refuse (ltb scratch (hermitian_scratch dim)) (6, 3) (components 0 a))))))

-- ---- the results: the singular values fall, so both are taken from the last to the first

-- value j: the singular value dim - 1 - j of the shifted matrix, less the shift
unfoldable pub hermitian_values : List Float → ℕ → List Float
hermitian_values a dim = table dim (λ j. sub binary64 (get_or (s_of (shifted_of a dim) dim dim) (dim - 1 - j) nan) (shift_of a dim))

-- column j: the column dim - 1 - j of U of the shifted matrix
unfoldable pub hermitian_vectors : List Float → ℕ → List Float
hermitian_vectors a dim = cells_of (dim * dim) (in_columns dim (λ j r. cell_at (u_of (shifted_of a dim) dim dim) ((dim - 1 - j) * dim + r)))

-- how the sweeps on the shifted matrix went
unfoldable pub hermitian_sweeps : List Float → ℕ → Sweeps
hermitian_sweeps a dim = svd_sweeps (shifted_of a dim) dim dim

-- ---- the answer

unfoldable pub finite_results : List Float → List Float → Bool
finite_results values vectors = all_finite values && all_finite vectors

-- 9 where a number of a result is not finite
unfoldable pub hermitian_end : List Float → List Float → Reply
hermitian_end values vectors = refuse (not (finite_results values vectors)) (9, 0) done

unfoldable pub hermitian_answer : List Float → ℕ → ℕ → ℕ → ℕ → Reply
hermitian_answer a dim values vectors scratch = and_then (hermitian_tests a dim values vectors scratch) (hermitian_end (hermitian_values a dim) (hermitian_vectors a dim))

-- the answer, the sweeps, and what values, vectors and scratch hold at the end
pub record Eigen (a : List Float) (dim : ℕ) (values vectors scratch : List Float) (r : Result Sweeps Refusal) (values' vectors' scratch' : List Float) : Type 0 where
  pub answer : paper r ≡ hermitian_answer a dim (length values) (length vectors) (length scratch)
  pub values-are : values' ≡ at_end (paper r).0 (hermitian_values a dim ++ drop dim values) (zeroed dim values) values
  pub vectors-are : vectors' ≡ at_end (paper r).0 (hermitian_vectors a dim ++ drop (need_vectors dim) vectors) (zeroed (need_vectors dim) vectors) vectors
  pub scratch-is : scratch' ≡ if_worked (paper r).0 (zeroed (hermitian_scratch dim) scratch) scratch
  pub sweeps-are : given no_sweeps r ≡ kept_sweeps r (hermitian_sweeps a dim)

-- ---- the steps

-- the side and the lengths of an accepted call, over slices of exactly the needed lengths
pub record HermitianExact (dim a values vectors scratch : ℕ) : Type 0 where
  pub side : dim ≤ 64
  pub a-is : a ≡ 2 * (dim * dim)
  pub values-are : values ≡ dim
  pub vectors-are : vectors ≡ need_vectors dim
  pub scratch-is : scratch ≡ hermitian_scratch dim

pub record HermitianFinished (values vectors : List Float) (r : Answer) (values' vectors' : List Float) : Type 0 where
  pub answer : paper r ≡ hermitian_end values vectors
  pub values-are : values' ≡ if_done (paper r).0 values (zeros (length values))
  pub vectors-are : vectors' ≡ if_done (paper r).0 vectors (zeros (length vectors))

pub record HermitianWorked (a : List Float) (dim : ℕ) (r : Result Sweeps Refusal) (values vectors scratch : List Float) : Type 0 where
  pub answer : paper r ≡ hermitian_end (hermitian_values a dim) (hermitian_vectors a dim)
  pub values-are : values ≡ if_done (paper r).0 (hermitian_values a dim) (zeros dim)
  pub vectors-are : vectors ≡ if_done (paper r).0 (hermitian_vectors a dim) (zeros (need_vectors dim))
  pub scratch-is : scratch ≡ zeros (hermitian_scratch dim)
  pub sweeps-are : given no_sweeps r ≡ kept_sweeps r (hermitian_sweeps a dim)
