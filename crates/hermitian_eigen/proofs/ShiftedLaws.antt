-- Laws of the shifted matrix. Assumes nothing.
use mathlib.Core.Path.{◌≡◌, refl, sym, ◌∙◌}
use mathlib.Core.List.{List}
use Prim.Native.Nat.{ℕ, ◌+◌, ◌*◌, ◌/◌, ◌%◌, ◌<◌}
use native.Mathlib.Numerals.{add-one}
use native.Mathlib.Nat.{add-zero, mul-add-div_right, mul-add-mod_self_right, div-eq_of_lt, mod-eq_of_lt}
use native.Mathlib.Omega.{arith}
use lib.Dec.{eqb}
use lib.Ieee.{Float}
use Rattle.numbers.specs.Numbers.{larger_of}
use Rattle.complex.specs.declared.Complex.{Complex}
use Rattle.modulus.specs.Modulus.{modulus_of}
use Rattle.complex.specs.Cells.{cell_at, cells_of}
use Rattle.complex.proofs.CellLaws.{cell-of}
use Rattle.complex.specs.Zeros.{zero_float}
use Rattle.svd_load.specs.Loading.{planes_of}
use Rattle.svd_load.proofs.LoadingLaws.{planes-alike}
use Rattle.hermitian_eigen.specs.Shifted.{peak_to, shift_of, shifted_cell, shifted_at, shifted_of}

pub peak-none : (a : List Float) → zero_float ≡ peak_to a 0
unfolding peak_to
peak-none a = refl

pub peak-more : (a : List Float) (k : ℕ) {x y : Float} {z : Complex} → x ≡ peak_to a k → z ≡ cell_at a k → y ≡ modulus_of z → larger_of x y ≡ peak_to a (k + 1)
unfolding peak_to
peak-more a k e f g = rw (add-one, ← e, ← f, g)

-- ---- columns of dim cells

pub split : (dim k r : ℕ) → r < dim → ((k * dim + r) / dim ≡ k) × ((k * dim + r) % dim ≡ r)
split dim k r h =
    let pos : 0 < dim = omega arith in
    (mul-add-div_right pos k r ∙ rw (div-eq_of_lt h) (add-zero k), mul-add-mod_self_right k dim r ∙ mod-eq_of_lt h)

-- the cell r of the column col
pub shifted_at_lem : (shift : Float) (a : List Float) (dim col r : ℕ) → r < dim
    → shifted_cell shift (eqb col r) (cell_at a (col * dim + r)) ≡ shifted_at shift a dim (col * dim + r)
unfolding shifted_at
shifted_at_lem shift a dim col r h =
    let s = split dim col r h in
    rw (s.0, s.1)

-- the planes that the sweeps start from are those of the shifted matrix
pub shifted-planes : (a : List Float) (dim : ℕ) → planes_of (dim * dim) (shifted_at (shift_of a dim) a dim) ≡ planes_of (dim * dim) (cell_at (shifted_of a dim))
unfolding shifted_of
shifted-planes a dim =
    let f = shifted_at (shift_of a dim) a dim in
    planes-alike (dim * dim) f (cell_at (cells_of (dim * dim) f)) (λ k l. sym (cell-of (dim * dim) k f l))
