-- The cells of the work matrix of a step. Assumes nothing.
use mathlib.Core.Path.{◌≡◌, ◌∙◌}
use mathlib.Core.List.{List}
use Prim.Native.Nat.{ℕ, ◌+◌, ◌*◌, ◌/◌, ◌%◌, ◌<◌}
use native.Mathlib.Nat.{add-zero, mul-add-div_right, mul-add-mod_self_right, div-eq_of_lt, mod-eq_of_lt}
use native.Mathlib.Omega.{arith}
use lib.Ieee.{Float}
use Rattle.complex.specs.declared.Complex.{Complex}
use Rattle.complex.specs.Arithmetic.{conjugate}
use Rattle.complex.specs.Cells.{cell_at}
use Rattle.chain_load.specs.Carried.{conjugated_at, across_at}

pub conjugated-is : (carried : List Float) (i : ℕ) {z y : Complex} → z ≡ cell_at carried i → y ≡ conjugate z → y ≡ conjugated_at carried i
unfolding conjugated_at
conjugated-is carried i e h = rw e at h

-- the cell r of the column col
pub across-is : (carried : List Float) (columns rows col r : ℕ) {z : Complex} → r < rows → z ≡ cell_at carried (r * columns + col)
    → z ≡ across_at carried columns rows (col * rows + r)
unfolding across_at
across-is carried columns rows col r h g =
    let pos : 0 < rows = omega arith in
    let d : (col * rows + r) / rows ≡ col = mul-add-div_right pos col r ∙ rw (div-eq_of_lt h) (add-zero col) in
    let e : (col * rows + r) % rows ≡ r = mul-add-mod_self_right col rows r ∙ mod-eq_of_lt h in
    rw (d, e) g
