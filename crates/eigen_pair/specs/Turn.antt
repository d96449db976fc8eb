-- The turn of a pair of a square matrix of n rows, row-major and as planes: its columns p and q, and then its rows. Assumes nothing.
use Rattle.std.specs.Prelude.{None, Some, List, ℕ, zero, suc, ◌+◌, ◌*◌, Float}
use Rattle.complex.specs.declared.Complex.{Complex}
use Rattle.complex.specs.Arithmetic.{product, sum_of, difference, times_real, conjugate}
use Rattle.complex.specs.Planes.{plane_at, set_plane}
use Rattle.svd_pair.specs.declared.Turn.{Turn}
use Rattle.svd_pair.specs.Decisions.{Decision}

-- cosine x - (sine phase) y
unfoldable pub eigen_new_p : Turn → Complex → Complex → Complex
eigen_new_p w x y = difference (times_real w.cosine x) (product (times_real w.sine w.phase) y)

-- sine x + (cosine phase) y
unfoldable pub eigen_new_q : Turn → Complex → Complex → Complex
eigen_new_q w x y = sum_of (times_real w.sine x) (product (times_real w.cosine w.phase) y)

-- the cells i and j of c are turned, both from their old values
unfoldable pub turn_two : Turn → ℕ → ℕ → ℕ → List Float → List Float
turn_two w c i j xs = set_plane (set_plane xs c i (eigen_new_p w (plane_at xs c i) (plane_at xs c j))) c j (eigen_new_q w (plane_at xs c i) (plane_at xs c j))

-- the cells i, i + d, i + 2 d, .. with j, j + d, ..: the first k of them. A column has the step d = n, and a row the step 1
unfoldable pub turn_line : Turn → ℕ → ℕ → ℕ → ℕ → ℕ → List Float → List Float
turn_line w c d i j zero xs = xs
turn_line w c d i j (suc k) xs = turn_two w c (k * d + i) (k * d + j) (turn_line w c d i j k xs)

abbrev pub angle : Float → Float → Complex → Turn
angle cosine sine phase = record { cosine = cosine; sine = sine; phase = phase }

-- the columns p and q with the conjugate of the phase, and then the rows with the phase
unfoldable pub turned : Turn → ℕ → ℕ → ℕ → List Float → List Float
turned w n p q xs =
    turn_line w (n * n) 1 (p * n) (q * n) n (turn_line (angle w.cosine w.sine (conjugate w.phase)) (n * n) n p q n xs)

-- what a decision does to the pair p, q
unfoldable pub eigen_applied : Decision → ℕ → ℕ → ℕ → List Float → List Float
eigen_applied None n p q xs = xs
eigen_applied (Some w) n p q xs = turned w n p q xs
