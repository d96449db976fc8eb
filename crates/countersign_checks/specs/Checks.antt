-- The refusals of a call that countersigns, in their order: 1, 6, 7 in all four arguments, 11 in all four.
-- Definitions only.
use Rattle.std.specs.Prelude.{is_none, List, [], ◌∷◌, ℕ, suc, ◌*◌, ◌/◌, ltb, Float, length}
use Rattle.answers.specs.Paper.{Reply, done, refuse, and_then, exactly}
use Rattle.matrix_sizes.specs.Sizes.{side_of, matrix_sizes}
use Rattle.complex.specs.Cells.{components}
use Rattle.values.specs.Lists.{values_allowed}
use Rattle.countersign_grid.specs.Grid.{grid_of}

unfoldable pub countersign_sizes : ℕ → ℕ → Reply
countersign_sizes m n = and_then (matrix_sizes m n) (refuse (ltb 16 (side_of m n)) (1, 0) done)

unfoldable pub countersign_lengths : ℕ → ℕ → ℕ → ℕ → ℕ → ℕ → Reply
countersign_lengths m n a u s vt =
    and_then (exactly 0 a (2 * (m * n))) (and_then (exactly 1 u (2 * (m * side_of m n))) (and_then (exactly 2 s (side_of m n)) (exactly 3 vt (2 * (side_of m n * n)))))

-- 7 at the first component that is not allowed; a value of S is one cell
unfoldable pub countersign_components : List Float → List Float → List Float → List Float → Reply
countersign_components a u s vt = and_then (components 0 a) (and_then (components 0 u) (and_then (values_allowed 0 s) (components 0 vt)))

-- 11 at the first number that is no whole number of 2^-18 or is above 1 in magnitude, a cell being so many numbers:
-- those from place i on are left
unfoldable pub off_grid : ℕ → ℕ → List Float → Reply
off_grid per i [] = done
off_grid per i (x ∷ l) = refuse (is_none (grid_of x)) (11, i / per) (off_grid per (suc i) l)

unfoldable pub countersign_grid : List Float → List Float → List Float → List Float → Reply
countersign_grid a u s vt = and_then (off_grid 2 0 a) (and_then (off_grid 2 0 u) (and_then (off_grid 1 0 s) (off_grid 2 0 vt)))

unfoldable pub countersign_tests : List Float → ℕ → ℕ → List Float → List Float → List Float → Reply
countersign_tests a m n u s vt =
    and_then (countersign_sizes m n)
    (and_then (countersign_lengths m n (length a) (length u) (length s) (length vt)) (and_then (countersign_components a u s vt) (countersign_grid a u s vt)))
