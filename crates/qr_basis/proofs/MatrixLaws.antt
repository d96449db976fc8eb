-- Laws of what `specs/Matrix.antt` defines. Assumes nothing.
use mathlib.Core.Path.{◌≡◌, refl, sym, ap, ap₂, ◌∙◌}
use mathlib.Core.List.{List, [], ◌∷◌, ◌++◌, append_assoc, append-nil}
use mathlib.Core.Logic.{⊎_elim}
use Prim.Native.Nat.{ℕ, zero, suc, ◌+◌, ◌*◌, ◌/◌, ◌%◌, ◌≤◌, ◌<◌}
use native.Mathlib.Nat.{add-zero, mul-zero, eq-or-lt_of_le, mul-add-div_right, mul-add-mod_self_right, div-eq_of_lt, mod-eq_of_lt, mod-lt, div-add-mod', div-lt_iff_lt-mul}
use native.Mathlib.Omega.{arith}
use lib.Ieee.{Float, nan}
use lib.ListN.{length, get_or, set, length-set, length-append, drop_of_length-le}
use lib.Seq.{drop-nil, set_at, set-append_left, append_snoc, get_or-set_same, get_or-set_other}
use Rattle.complex.specs.declared.Complex.{Complex}
use Rattle.complex.specs.Arithmetic.{complex_of}
use Rattle.complex.specs.Cells.{cell_at, set_cell, cells_of, written}
use Rattle.complex.proofs.CellLaws.{length-cells, cells_same, cell-of}
use Rattle.complex.specs.Planes.{plane_at}
use Rattle.complex.specs.Zeros.{zero_float, zeros, zeroed}
use Rattle.complex.proofs.ZerosLaws.{zeroed-at, length-zeros}
use Rattle.whole_numbers.proofs.WholeLaws.{le-or-lt, column_fits}
use Rattle.qr_basis.specs.Matrix.{column_cell, matrix_of}

-- every cell was written
pub written_all : (m : ℕ) (f : ℕ → Complex) (old : List Float) → length old ≡ 2 * m → written m f old ≡ cells_of m f
unfolding written
written_all m f old h = rw (drop_of_length-le old {i = 2 * m} (omega arith)) (append-nil (cells_of m f))

pub column-at : (rows : ℕ) (q : List Float) (i t : ℕ) → t < rows → column_cell rows q (i * rows + t) ≡ plane_at q rows (2 * (i * rows) + t)
unfolding column_cell
column-at rows q i t h =
    let pos : 0 < rows = omega arith in
    let d : (i * rows + t) / rows ≡ i = mul-add-div_right pos i t ∙ rw (div-eq_of_lt h) (add-zero i) in
    let e : (i * rows + t) % rows ≡ t = mul-add-mod_self_right i rows t ∙ mod-eq_of_lt h in
    rw (d, e)

-- ROW t OF THE COLUMN i
pub cell-matrix : (rows : ℕ) (q : List Float) (i t : ℕ) → 2 * (i * rows + rows) ≤ length q → t < rows
    → cell_at (matrix_of rows q) (i * rows + t) ≡ plane_at q rows (2 * (i * rows) + t)
unfolding matrix_of
cell-matrix rows q i t l h = cell-of (length q / 2) (i * rows + t) (column_cell rows q) (omega arith) ∙ column-at rows q i t h

pub read-matrix : (rows : ℕ) (q : List Float) (i t : ℕ) → 2 * (i * rows + rows) ≤ length q → t < rows
    → complex_of (get_or q (2 * (i * rows) + t) nan) (get_or q (rows + (2 * (i * rows) + t)) nan) ≡ cell_at (matrix_of rows q) (i * rows + t)
unfolding plane_at
read-matrix rows q i t l h = sym (cell-matrix rows q i t l h)

-- ---- a cell is set

-- one cell of a table differs
cells-set : (m k : ℕ) (f g : ℕ → Complex) (z : Complex) → k < m → g k ≡ z → ((x : ℕ) → x < m → (x ≡ k → ⊥) → g x ≡ f x)
    → cells_of m g ≡ set_cell (cells_of m f) k z
unfolding cells_of
cells-set zero k f g z h e o = absurd (omega arith)
cells-set (suc m) k f g z h e o =
    let p = cells_of m f in
    let l = length-cells m f in
    ⊎_elim
    (λ (q : k ≡ m).
    let s : cells_of m g ≡ p = cells_same m g f (λ x n. o x (omega arith) (λ r. omega arith)) in
    let v : g m ≡ z = ap g (sym q) ∙ e in
    let n : 2 * k + 1 ≡ suc (2 * k) = omega arith in
    let l₂ : length (p ++ z.re ∷ []) ≡ suc (2 * k) = length-append p (z.re ∷ []) ∙ omega (arith, l) in
    rw (
      s,
      v,
      n,
      set_at p (f m).re ((f m).im ∷ []) z.re (2 * k) (omega (arith, l)),
      ← append_snoc p z.re ((f m).im ∷ []),
      set_at (p ++ z.re ∷ []) (f m).im [] z.im (suc (2 * k)) l₂,
    )
    (simp append_assoc))
    (λ (q : k < m).
    let v : g m ≡ f m = o m (omega arith) (λ r. omega arith) in
    let b = (f m).re ∷ (f m).im ∷ [] in
    rw (cells-set m k f g z q e (λ x n. o x (omega arith)), v)
    (sym (set-append_left (set p (2 * k) z.re) b (2 * k + 1) z.im (omega (arith, l, length-set p (2 * k) z.re)))
    ∙ ap (λ (y : List Float). set y (2 * k + 1) z.im) (sym (set-append_left p b (2 * k) z.re (omega (arith, l))))))
    (eq-or-lt_of_le (omega arith))

-- two cells of the matrix have no number in common
record Apart (rows a b : ℕ) : Type 0 where
  re-re : a ≡ b → ⊥
  re-im : a ≡ rows + b → ⊥
  im-re : rows + a ≡ b → ⊥

apart : (rows c s i t : ℕ) → s < rows → t < rows → (c ≡ i → s ≡ t → ⊥) → Apart rows (2 * (c * rows) + s) (2 * (i * rows) + t)
apart rows c s i t h g n =
    ⊎_elim
    (λ (e : c ≤ i).
    ⊎_elim
    (λ (q : c ≡ i).
    let m : c * rows ≡ i * rows = ap (λ (x : ℕ). x * rows) q in
    let d : s ≡ t → ⊥ = n q in
    record { re-re = λ y. d (omega arith); re-im = λ y. omega arith; im-re = λ y. omega arith })
    (λ (q : c < i).
    let m = column_fits c i rows q in
    record { re-re = λ y. omega arith; re-im = λ y. omega arith; im-re = λ y. omega arith })
    (eq-or-lt_of_le e))
    (λ (q : i < c).
    let m = column_fits i c rows q in
    record { re-re = λ y. omega arith; re-im = λ y. omega arith; im-re = λ y. omega arith })
    (le-or-lt c i)

-- the numbers of row t of the column i become z's
abbrev numbers_set : ℕ → List Float → ℕ → ℕ → Complex → List Float
numbers_set rows q i t z = set (set q (2 * (i * rows) + t) z.re) (rows + (2 * (i * rows) + t)) z.im

module _ (rows : ℕ) (q : List Float) (i t : ℕ) (z : Complex) (l : 2 * (i * rows + rows) ≤ length q) (h : t < rows) where
  same : plane_at (numbers_set rows q i t z) rows (2 * (i * rows) + t) ≡ z
  unfolding plane_at
  same =
      let at = 2 * (i * rows) + t in
      let one = set q at z.re in
      ap₂ complex_of
      (get_or-set_other one (rows + at) at z.im nan (λ e. omega arith) ∙ get_or-set_same q at z.re nan (omega arith))
      (get_or-set_same one (rows + at) z.im nan (omega (arith, length-set q at z.re)))

  other : (x : ℕ) → (x ≡ i * rows + t → ⊥) → column_cell rows (numbers_set rows q i t z) x ≡ column_cell rows q x
  unfolding column_cell plane_at
  other x n =
      let pos : 0 < rows = omega arith in
      let at = 2 * (i * rows) + t in
      let one = set q at z.re in
      let y = 2 * (x / rows * rows) + x % rows in
      let w : x / rows * rows + x % rows ≡ x = div-add-mod' x rows in
      let a = apart rows (x / rows) (x % rows) i t (mod-lt x pos) h (λ e f. n (sym w ∙ ap₂ (λ (u v : ℕ). u * rows + v) e f)) in
      ap₂ complex_of
      (get_or-set_other one (rows + at) y z.im nan a.re-im ∙ get_or-set_other q at y z.re nan a.re-re)
      (get_or-set_other one (rows + at) (rows + y) z.im nan (λ e. a.re-re (omega arith)) ∙ get_or-set_other q at (rows + y) z.re nan a.im-re)

  -- THE CELL IS SET IN THE MATRIX
  pub write-matrix : matrix_of rows (numbers_set rows q i t z) ≡ set_cell (matrix_of rows q) (i * rows + t) z
  unfolding matrix_of
  write-matrix =
      let e : length (numbers_set rows q i t z) ≡ length q =
      length-set (set q (2 * (i * rows) + t) z.re) (rows + (2 * (i * rows) + t)) z.im ∙ length-set q (2 * (i * rows) + t) z.re in
      ap (λ (n : ℕ). cells_of (n / 2) (column_cell rows (numbers_set rows q i t z))) e
      ∙ cells-set (length q / 2) (i * rows + t) (column_cell rows q) (column_cell rows (numbers_set rows q i t z)) z (omega arith)
      (column-at rows (numbers_set rows q i t z) i t h ∙ same)
      (λ x m n. other x n)

-- ---- no number but +0.0

zeros-cells : (m : ℕ) → cells_of m (λ x. complex_of zero_float zero_float) ≡ zeros (2 * m)
unfolding cells_of zeros
zeros-cells zero = refl
zeros-cells (suc m) =
    let e : 2 * suc m ≡ suc (suc (2 * m)) = omega arith in
    rw (e, zeros-cells m) (simp append_assoc)

zeros-whole : (n : ℕ) → zeros n ≡ zeroed n []
unfolding zeroed
zeros-whole n = sym (ap (λ (x : List Float). zeros n ++ x) (drop-nil n) ∙ append-nil (zeros n))

some-rows : (cap rows x : ℕ) → x < cap * rows → 0 < rows
some-rows cap zero x h = absurd (omega (arith, mul-zero cap))
some-rows cap (suc rows) x h = omega arith

pub matrix-zeros : (rows cap : ℕ) {q : List Float} → q ≡ zeros (2 * (cap * rows)) → matrix_of rows q ≡ zeros (2 * (cap * rows))
unfolding matrix_of column_cell plane_at
matrix-zeros rows cap {q} e =
    let m = cap * rows in
    let l : length q ≡ 2 * (cap * rows) = ap length e ∙ length-zeros (2 * m) in
    let d : length q / 2 ≡ cap * rows = omega arith in
    let none : (k : ℕ) → k < 2 * (cap * rows) → get_or q k nan ≡ zero_float =
    λ k h. ap (λ (x : List Float). get_or x k nan) (e ∙ zeros-whole (2 * m)) ∙ zeroed-at (2 * m) k [] h in
    ap (λ (n : ℕ). cells_of n (column_cell rows q)) d
    ∙ cells_same m (column_cell rows q) (λ x. complex_of zero_float zero_float)
    (λ x h.
    let pos = some-rows cap rows x h in
    let c = column_fits (x / rows) cap rows ((div-lt_iff_lt-mul pos).1 h) in
    let s = mod-lt x pos in
    ap₂ complex_of
    (none (2 * (x / rows * rows) + x % rows) (omega (arith, c, s)))
    (none (rows + (2 * (x / rows * rows) + x % rows)) (omega (arith, c, s))))
    ∙ zeros-cells m
