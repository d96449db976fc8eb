-- Laws of the columns. Assumes nothing.
use mathlib.Core.Path.{◌≡◌, refl, ap, ◌∙◌}
use mathlib.Core.List.{List, ◌++◌}
use Prim.Native.Nat.{ℕ, zero, suc, ◌+◌, ◌-◌, ◌*◌, ◌≤◌}
use native.Mathlib.Numerals.{add-one}
use native.Mathlib.Omega.{arith}
use lib.Ieee.{Float, nan}
use lib.ListN.{length, get_or, drop, length-set}
use lib.Seq.{get_or-append-add, get_or-drop}
use Rattle.numbers.specs.Root.{sqrt_of}
use Rattle.complex.specs.declared.Complex.{Complex}
use Rattle.complex.specs.Arithmetic.{scaled}
use Rattle.complex.specs.Cells.{cell_at, set_cell, cells_of, written}
use Rattle.complex.proofs.CellLaws.{length-cells}
use Rattle.complex.specs.Squares.{squares_to}
use Rattle.qr_column.specs.Columns.{cell_from, norm_of, scaled_into}

-- a number past the written cells is as it was
pub number-kept : (m i : ℕ) (f : ℕ → Complex) (old : List Float) → 2 * m ≤ i → get_or (written m f old) i nan ≡ get_or old i nan
unfolding written
number-kept m i f old h =
    let n = i - 2 * m in
    let e : i ≡ length (cells_of m f) + n = omega (arith, length-cells m f) in
    let g : 2 * m + n ≡ i = omega arith in
    ap (λ (x : ℕ). get_or (cells_of m f ++ drop (2 * m) old) x nan) e
    ∙ get_or-append-add (cells_of m f) (drop (2 * m) old) n nan
    ∙ get_or-drop (2 * m) old n nan
    ∙ ap (λ (x : ℕ). get_or old x nan) g

-- ---- a column taken out of a matrix

pub column-cell : (a : List Float) (o t : ℕ) {z : Complex} → z ≡ cell_at a (o + t) → z ≡ cell_from a o t
unfolding cell_from
column-cell a o t e = e

-- ---- the norm

pub norm-made : (v : List Float) (rows : ℕ) {x y : Float} → x ≡ squares_to (cell_at v) rows → y ≡ sqrt_of x → y ≡ norm_of v rows
unfolding norm_of
norm-made v rows e f = f ∙ ap sqrt_of e

-- ---- a column scaled into a matrix

pub length-scaled_into : (v : List Float) (k : Float) (q : List Float) (o n : ℕ) → length (scaled_into v k q o n) ≡ length q
unfolding scaled_into
length-scaled_into v k q o zero = refl
length-scaled_into v k q o (suc n) = simp length-set (length-scaled_into v k q o n)

pub scaled-none : (v : List Float) (k : Float) (q : List Float) (o : ℕ) → q ≡ scaled_into v k q o 0
unfolding scaled_into
scaled-none v k q o = refl

pub scaled-more : (v : List Float) (k : Float) (q : List Float) (o n : ℕ) {p w : List Float} {x z : Complex} → p ≡ scaled_into v k q o n → x ≡ cell_at v n
    → z ≡ scaled x k → w ≡ set_cell p (o + n) z → w ≡ scaled_into v k q o (n + 1)
unfolding scaled_into
scaled-more v k q o n e f g h = rw (add-one, ← e, ← f, ← g) h
