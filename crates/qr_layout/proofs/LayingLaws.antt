-- Laws of what `specs/Laying.antt` defines. Assumes nothing.
use mathlib.Core.Path.{◌≡◌, refl, sym, ap, ap₂, ◌∙◌}
use mathlib.Core.List.{List}
use Prim.Native.Nat.{ℕ, zero, suc, ◌+◌, ◌*◌, ◌/◌, ◌≤◌, ◌<◌}
use native.Mathlib.Numerals.{add-one}
use native.Mathlib.Nat.{add-zero}
use native.Mathlib.Omega.{arith}
use lib.Ieee.{Float, nan}
use lib.ListN.{length, get_or}
use Rattle.complex.specs.declared.Complex.{Complex}
use Rattle.complex.specs.Arithmetic.{complex_of}
use Rattle.complex.specs.Cells.{cell_at, set_cell, cells_of, written}
use Rattle.complex.proofs.CellLaws.{written-more, cell-of}
use Rattle.complex.specs.Planes.{plane_at}
use Rattle.qr_basis.specs.Matrix.{column_cell, matrix_of}
use Rattle.qr_basis.proofs.MatrixLaws.{written_all, column-at, cell-matrix}
use Rattle.qr_column.specs.Columns.{cell_from, column_of}
use Rattle.qr_column.proofs.ColumnLaws.{number-kept}
use Rattle.qr_column.specs.Woven.{woven}
use Rattle.qr_column.proofs.WovenLaws.{cell-woven}
use Rattle.qr_layout.specs.Laying.{placed_into}

pub placed-none : (v q : List Float) (o : ℕ) → q ≡ placed_into v q o 0
unfolding placed_into
placed-none v q o = refl

pub placed-more : (v q : List Float) (o n : ℕ) {p w : List Float} {z : Complex} → p ≡ placed_into v q o n → z ≡ cell_at v n → w ≡ set_cell p (o + n) z
    → w ≡ placed_into v q o (n + 1)
unfolding placed_into
placed-more v q o n e f g =
    g ∙ ap₂ (λ (l : List Float) (x : Complex). set_cell l (o + n) x) e f ∙ ap (placed_into v q o) (sym (add-one n))

placed-written : (v : List Float) (f : ℕ → Complex) (old : List Float) (o n : ℕ) → 2 * (o + n) ≤ length old → ((t : ℕ) → t < n → cell_at v t ≡ f (o + t))
    → placed_into v (written o f old) o n ≡ written (o + n) f old
unfolding placed_into
placed-written v f old o zero h c = ap (λ (x : ℕ). written x f old) (sym (add-zero o))
placed-written v f old o (suc n) h c =
    let e : o + n + 1 ≡ o + suc n = omega arith in
    ap₂ (λ (l : List Float) (z : Complex). set_cell l (o + n) z) (placed-written v f old o n (omega arith) (λ t k. c t (omega arith))) (c n (omega arith))
    ∙ written-more (o + n) f old (omega arith)
    ∙ ap (λ (x : ℕ). written x f old) e

-- the first i columns are cells, and the others are planes
unfoldable pub laid_out : ℕ → List Float → ℕ → List Float
laid_out rows q i = written (i * rows) (column_cell rows q) q

pub laid_none : (rows : ℕ) (q : List Float) → q ≡ laid_out rows q 0
unfolding laid_out written cells_of
laid_none rows q =
    let e : 0 * rows ≡ 0 = omega arith in
    rw e

-- a column that is still planes
still : (rows : ℕ) (q : List Float) (i t : ℕ) {p : List Float} → p ≡ laid_out rows q i → plane_at p rows (2 * (i * rows) + t) ≡ plane_at q rows (2 * (i * rows) + t)
unfolding laid_out plane_at
still rows q i t e =
    let at = 2 * (i * rows) + t in
    ap₂ complex_of
    (ap (λ (x : List Float). get_or x at nan) e ∙ number-kept (i * rows) at (column_cell rows q) q (omega arith))
    (ap (λ (x : List Float). get_or x (rows + at) nan) e ∙ number-kept (i * rows) (rows + at) (column_cell rows q) q (omega arith))

column-cells : (rows : ℕ) (p : List Float) (i t : ℕ) → 2 * (i * rows + rows) ≤ length p → t < rows
    → cell_at (column_of (matrix_of rows p) (i * rows) rows) t ≡ plane_at p rows (2 * (i * rows) + t)
unfolding column_of cell_from
column-cells rows p i t l h = cell-of rows t (cell_from (matrix_of rows p) (i * rows)) h ∙ cell-matrix rows p i t l h

-- the next column, read as planes, is placed as cells
pub laid_more : (rows : ℕ) (q : List Float) (i : ℕ) {p v w : List Float} → 2 * (i * rows + rows) ≤ length q → length p ≡ length q → p ≡ laid_out rows q i
    → v ≡ column_of (matrix_of rows p) (i * rows) rows → w ≡ placed_into v p (i * rows) rows → w ≡ laid_out rows q (i + 1)
unfolding laid_out
laid_more rows q i {p} {v} {w} l b e f g =
    let cells : (t : ℕ) → t < rows → cell_at v t ≡ column_cell rows q (i * rows + t) =
    λ t h.
    ap (λ (x : List Float). cell_at x t) f ∙ column-cells rows p i t (omega arith) h ∙ still rows q i t e ∙ sym (column-at rows q i t h) in
    let n : i * rows + rows ≡ (i + 1) * rows = omega arith in
    g
    ∙ ap (λ (x : List Float). placed_into v x (i * rows) rows) e
    ∙ placed-written v (column_cell rows q) q (i * rows) rows l cells
    ∙ ap (λ (x : ℕ). written x (column_cell rows q) q) n

-- a row of the column that is held as planes
pub placed_row : (v : List Float) (rows : ℕ) (q : List Float) (o t : ℕ) {p w : List Float} {z : Complex} → t < rows → p ≡ placed_into (woven rows v) q o t
    → z ≡ plane_at v rows t → w ≡ set_cell p (o + t) z → w ≡ placed_into (woven rows v) q o (t + 1)
placed_row v rows q o t h e f g = placed-more (woven rows v) q o t e (f ∙ sym (cell-woven rows v t h)) g

-- THE COLUMNS AS CELLS
pub laid-all : (rows cap : ℕ) (q : List Float) → length q ≡ 2 * (cap * rows) → laid_out rows q cap ≡ matrix_of rows q
unfolding laid_out matrix_of
laid-all rows cap q l =
    let d : cap * rows ≡ length q / 2 = omega arith in
    written_all (cap * rows) (column_cell rows q) q l ∙ ap (λ (n : ℕ). cells_of n (column_cell rows q)) d
