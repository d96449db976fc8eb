-- The sizes of a matrix: the smaller and the larger one, and which are taken. Definitions only.
use Rattle.std.specs.Prelude.{not, cond, ℕ, ◌*◌, ◌≤◌, leb, ltb}
use Rattle.answers.specs.Paper.{Reply, done, refuse}

-- the smaller size and the larger one
unfoldable pub side_of : ℕ → ℕ → ℕ
side_of m n = cond (ltb m n) m n

unfoldable pub rows_of : ℕ → ℕ → ℕ
rows_of m n = cond (ltb m n) n m

-- 1: a size below 1, or more than 4096 cells
unfoldable pub matrix_sizes : ℕ → ℕ → Reply
matrix_sizes m n = refuse (not (leb 1 m)) (1, 0) (refuse (not (leb 1 n)) (1, 0) (refuse (ltb 4096 (m * n)) (1, 0) done))

-- the sizes that are taken
pub record MatrixSized (m n : ℕ) : Type 0 where
  pub some-rows : 1 ≤ m
  pub some-columns : 1 ≤ n
  pub few : m * n ≤ 4096
