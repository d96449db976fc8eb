-- The eigenvalues of a square matrix, and what refuses one. Definitions only.
use Rattle.std.specs.Prelude.{not, List, ℕ, ◌*◌, eqb, ltb, Float, length}
use Rattle.answers.specs.Paper.{Reply, done, refuse, and_then}
use Rattle.complex.specs.Cells.{cell_at, components}
use Rattle.tables.specs.Tables.{table}
use Rattle.svd_load.specs.Loading.{planes_of}
use Rattle.values.specs.Lists.{all_finite}
use Rattle.sweeps.specs.declared.Sweeps.{Sweeps}
use Rattle.eigen_sweeps.specs.Sweeping.{diagonal, eigen_settled}

-- entry i of the diagonal that the sweeps end with
unfoldable pub eigenvalue : List Float → ℕ → ℕ → Float
eigenvalue a n i = diagonal (eigen_settled n (planes_of (n * n) (cell_at a))).work n i

abbrev pub eigenvalues_of : List Float → ℕ → List Float
eigenvalues_of a n = table n (eigenvalue a n)

-- how the sweeps went
unfoldable pub eigenvalues_sweeps : List Float → ℕ → Sweeps
eigenvalues_sweeps a n = (eigen_settled n (planes_of (n * n) (cell_at a))).sweeps

-- 9 where one of them is not finite
unfoldable pub eigen_reply : List Float → ℕ → Reply
eigen_reply a n = refuse (not (all_finite (eigenvalues_of a n))) (9, 0) done

-- 1: the side; 6: the matrix is slice 0, the output 1, scratch 2; 7
unfoldable pub square_refusal : List Float → ℕ → ℕ → ℕ → Reply
square_refusal a n out scratch =
    refuse (ltb n 1) (1, 0)
    (refuse (ltb 64 n) (1, 0)
    (refuse (not (eqb (length a) (2 * (n * n)))) (6, 0) (refuse (ltb out n) (6, 1) (refuse (ltb scratch (2 * (n * n))) (6, 2) (components 0 a)))))

-- the whole answer
abbrev pub eigen_answer : List Float → ℕ → List Float → List Float → Reply
eigen_answer a n out scratch = and_then (square_refusal a n (length out) (length scratch)) (eigen_reply a n)
