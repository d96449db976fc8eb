-- Laws of what `specs/Woven.antt` defines. Assumes nothing.
use mathlib.Core.Path.{◌≡◌, refl, sym, ap, ap₂, ◌∙◌}
use mathlib.Core.List.{List}
use mathlib.Core.Logic.{⊎_elim}
use Prim.Native.Nat.{ℕ, ◌+◌, ◌*◌, ◌≤◌, ◌<◌}
use native.Mathlib.Nat.{eq-or-lt_of_le}
use native.Mathlib.Omega.{arith}
use lib.Ieee as Ieee
use lib.Ieee.{Float, binary64, nan}
use lib.ListN.{length, set, length-set}
use lib.Seq.{get_or-set_same, get_or-set_other}
use Rattle.complex.specs.declared.Complex.{Complex}
use Rattle.complex.specs.Arithmetic.{complex_of, conjugate, product, difference, norm_sqr, scaled}
use Rattle.complex.specs.Cells.{cell_at, set_cell, cells_of}
use Rattle.complex.proofs.CellLaws.{cells_same, cell-of}
use Rattle.complex.specs.Planes.{plane_at, set_plane}
use Rattle.complex.specs.Squares.{squares_to}
use Rattle.complex.proofs.SquaresLaws.{squares-more}
use Rattle.complex.proofs.PlanesLaws.{length-set_plane}
use Rattle.qr_column.specs.Dot.{dot_term}
use Rattle.qr_column.specs.Columns.{cell_from, column_of, less_cell, lessened, scaled_into}
use Rattle.qr_column.proofs.ColumnLaws.{scaled-more}
use Rattle.qr_column.specs.Woven.{woven}

pub cell-woven : (rows : ℕ) (v : List Float) (t : ℕ) → t < rows → cell_at (woven rows v) t ≡ plane_at v rows t
unfolding woven
cell-woven rows v t h = cell-of rows t (plane_at v rows) h

-- ---- a cell that is set, and the others

pub plane-same : (v : List Float) (rows t : ℕ) (z : Complex) → length v ≡ 2 * rows → t < rows → plane_at (set_plane v rows t z) rows t ≡ z
unfolding plane_at set_plane
plane-same v rows t z l h =
    let a = set v t z.re in
    ap₂ complex_of
    (get_or-set_other a (rows + t) t z.im nan (λ e. omega arith) ∙ get_or-set_same v t z.re nan (omega arith))
    (get_or-set_same a (rows + t) z.im nan (omega (arith, length-set v t z.re)))

pub plane-other : (v : List Float) (rows t i : ℕ) (z : Complex) → t < rows → i < rows → (i ≡ t → ⊥) → plane_at (set_plane v rows t z) rows i ≡ plane_at v rows i
unfolding plane_at set_plane
plane-other v rows t i z h g n =
    let a = set v t z.re in
    ap₂ complex_of
    (get_or-set_other a (rows + t) i z.im nan (λ e. omega arith) ∙ get_or-set_other v t i z.re nan n)
    (get_or-set_other a (rows + t) (rows + i) z.im nan (λ e. n (omega arith)) ∙ get_or-set_other v t (rows + i) z.re nan (λ e. omega arith))

-- ---- the loop that fills the column with the cells of f: what it holds, and what a step and the end make of it

pub record Filled (f : ℕ → Complex) (rows : ℕ) (old v : List Float) (t : ℕ) : Type 0 where
  pub within : t ≤ rows
  pub size : length v ≡ length old
  pub cells : (i : ℕ) → i < t → plane_at v rows i ≡ f i
  pub rest : (i : ℕ) → t ≤ i → i < rows → plane_at v rows i ≡ plane_at old rows i

pub fill-begin : (f : ℕ → Complex) (rows : ℕ) (old : List Float) → Filled f rows old old 0
fill-begin f rows old = record { within = omega arith; size = refl; cells = λ i h. absurd (omega arith); rest = λ i h g. refl }

pub fill_step : (f : ℕ → Complex) (rows : ℕ) (old : List Float) {v w : List Float} (t : ℕ) {z : Complex} → Filled f rows old v t
    → length old ≡ 2 * rows → t < rows → z ≡ f t → w ≡ set_plane v rows t z → Filled f rows old w (t + 1)
fill_step f rows old {v} {w} t {z} s l h e g =
    let at : (i : ℕ) → plane_at w rows i ≡ plane_at (set_plane v rows t z) rows i = λ i. ap (λ (x : List Float). plane_at x rows i) g in
    record {
      within = omega arith;
      size = ap length g ∙ length-set_plane v rows t z ∙ s.size;
      cells =
          λ i k.
          ⊎_elim
          (λ (q : i ≡ t). at i ∙ ap (plane_at (set_plane v rows t z) rows) q ∙ plane-same v rows t z (s.size ∙ l) h ∙ e ∙ ap f (sym q))
          (λ (q : i < t). at i ∙ plane-other v rows t i z h (omega arith) (λ y. omega arith) ∙ s.cells i q)
          (eq-or-lt_of_le (omega arith));
      rest = λ i k m. at i ∙ plane-other v rows t i z h m (λ y. omega arith) ∙ s.rest i (omega arith) m;
    }

pub fill_end : (f : ℕ → Complex) (rows : ℕ) (old : List Float) {v : List Float} (t : ℕ) → Filled f rows old v t → rows ≤ t
    → woven rows v ≡ cells_of rows f
unfolding woven
fill_end f rows old {v} t s h = cells_same rows (plane_at v rows) f (λ i k. s.cells i (omega arith))

-- ---- a column taken out of a matrix

pub column-end : (a : List Float) (o rows : ℕ) (old : List Float) {v : List Float} (t : ℕ) → Filled (cell_from a o) rows old v t → rows ≤ t
    → woven rows v ≡ column_of a o rows
unfolding column_of
column-end a o rows old t s h = fill_end (cell_from a o) rows old t s h

-- ---- a column less a multiple of another

pub less-cell : (old q : List Float) (o rows : ℕ) (d : Complex) {v : List Float} (t : ℕ) {x y p z : Complex}
    → Filled (less_cell (woven rows old) q o d) rows old v t → t < rows → x ≡ plane_at v rows t → y ≡ cell_at q (o + t) → p ≡ product d y → z ≡ difference x p
    → z ≡ less_cell (woven rows old) q o d t
unfolding less_cell
less-cell old q o rows d t s l e f g h =
    h ∙ ap₂ difference (e ∙ s.rest t (omega arith) l ∙ sym (cell-woven rows old t l)) (g ∙ ap (product d) f)

pub less-end : (old q : List Float) (o rows : ℕ) (d : Complex) {v : List Float} (t : ℕ) → Filled (less_cell (woven rows old) q o d) rows old v t → rows ≤ t
    → woven rows v ≡ lessened (woven rows old) q o rows d
unfolding lessened
less-end old q o rows d t s h = fill_end (less_cell (woven rows old) q o d) rows old t s h

-- ---- what the loops that read the column make of a row

pub term-woven : (q : List Float) (o : ℕ) (v : List Float) (rows t : ℕ) {x y z w : Complex} → t < rows → x ≡ cell_at q (o + t) → y ≡ conjugate x
    → z ≡ plane_at v rows t → w ≡ product y z → w ≡ dot_term q o (woven rows v) t
unfolding dot_term
term-woven q o v rows t h e f g i = i ∙ ap₂ product (f ∙ ap conjugate e) (g ∙ sym (cell-woven rows v t h))

pub squares-woven : (v : List Float) (rows t : ℕ) {x n : Float} {z : Complex} → t < rows → x ≡ squares_to (cell_at (woven rows v)) t → z ≡ plane_at v rows t
    → n ≡ norm_sqr z → Ieee.add binary64 x n ≡ squares_to (cell_at (woven rows v)) (t + 1)
squares-woven v rows t h e f g = squares-more (cell_at (woven rows v)) t e (f ∙ sym (cell-woven rows v t h)) g

pub scaled-woven : (v : List Float) (rows : ℕ) (k : Float) (q : List Float) (o t : ℕ) {p w : List Float} {x z : Complex} → t < rows
    → p ≡ scaled_into (woven rows v) k q o t → x ≡ plane_at v rows t → z ≡ scaled x k → w ≡ set_cell p (o + t) z → w ≡ scaled_into (woven rows v) k q o (t + 1)
scaled-woven v rows k q o t h e f g i = scaled-more (woven rows v) k q o t e (f ∙ sym (cell-woven rows v t h)) g i
