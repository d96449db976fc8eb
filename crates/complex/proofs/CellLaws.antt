-- Laws of the cells. Assumes nothing.
use mathlib.Core.Path.{◌≡◌, refl, ap₂, ◌∙◌}
use mathlib.Core.Bool.{true, false, not}
use mathlib.Core.List.{List, [], ◌∷◌, ◌++◌, append_assoc, append-nil}
use Prim.Native.Nat.{ℕ, zero, suc, ◌+◌, ◌*◌, ◌/◌, ◌≤◌, ◌<◌}
use native.Mathlib.Numerals.{add-one}
use native.Mathlib.Omega.{arith}
use lib.Ieee.{Float, nan}
use lib.ListN.{length, get_or, drop, length-append, length-drop, get_or-append, drop_of_length-le}
use mathlib.Core.Logic.{⊎_elim}
use native.Mathlib.Nat.{eq-or-lt_of_le}
use lib.Seq.{set_at, drop-cons, get_or_at, append_snoc, drop-nil}
use Rattle.answers.specs.Paper.{done}
use Rattle.answers.proofs.PaperLaws.{refuse-small}
use Rattle.numbers.specs.Numbers.{allowed}
use Rattle.complex.specs.declared.Complex.{Complex}
use Rattle.complex.specs.Cells.{cell_at, set_cell, cells_of, written, components}

pub length-cells : (m : ℕ) (f : ℕ → Complex) → length (cells_of m f) ≡ 2 * m
unfolding cells_of
length-cells zero f = refl
length-cells (suc m) f = length-append (cells_of m f) ((f m).re ∷ (f m).im ∷ []) ∙ omega (arith, length-cells m f)

pub written_none : (f : ℕ → Complex) (old : List Float) → old ≡ written 0 f old
unfolding written cells_of
written_none f old = refl

pub length-written : (m : ℕ) (f : ℕ → Complex) (old : List Float) → 2 * m ≤ length old → length (written m f old) ≡ length old
unfolding written
length-written m f old h = length-append (cells_of m f) (drop (2 * m) old) ∙ omega (arith, length-cells m f, length-drop (2 * m) old)

-- a step of a loop that fills the cells in order
pub written-more : (m : ℕ) (f : ℕ → Complex) (old : List Float) → 2 * m + 1 < length old
    → set_cell (written m f old) m (f m) ≡ written (m + 1) f old
unfolding written cells_of
written-more m f old h =
    let l = length-cells m f in
    let two : 2 * (m + 1) ≡ suc (suc (2 * m)) = omega arith in
    let n : 2 * m + 1 ≡ suc (2 * m) = omega arith in
    let y = get_or old (2 * m) nan in
    let z = get_or old (suc (2 * m)) nan in
    let p = cells_of m f in
    let ys = drop (suc (suc (2 * m))) old in
    let l₂ : length (p ++ (f m).re ∷ []) ≡ suc (2 * m) = length-append p ((f m).re ∷ []) ∙ omega (arith, l) in
    rw (
      two,
      n,
      add-one,
      drop-cons old (2 * m) nan (omega arith),
      drop-cons old (suc (2 * m)) nan (omega arith),
      set_at p y (z ∷ ys) (f m).re (2 * m) l,
      ← append_snoc p (f m).re (z ∷ ys),
      set_at (p ++ (f m).re ∷ []) z ys (f m).im (suc (2 * m)) l₂,
    )
    (simp append_assoc)

-- a cell that was written
re-at : (m k : ℕ) (f : ℕ → Complex) → k < m → get_or (cells_of m f) (2 * k) nan ≡ (f k).re
unfolding cells_of
re-at zero k f h = absurd (omega arith)
re-at (suc m) k f h =
    ⊎_elim
    (λ (e : k ≡ m). rw e (get_or_at (cells_of m f) (f m).re ((f m).im ∷ []) nan (2 * m) (length-cells m f)))
    (λ (e : k < m). get_or-append (cells_of m f) ((f m).re ∷ (f m).im ∷ []) nan (2 * k) (omega (arith, length-cells m f)) ∙ re-at m k f e)
    (eq-or-lt_of_le (omega arith))

im-at : (m k : ℕ) (f : ℕ → Complex) → k < m → get_or (cells_of m f) (2 * k + 1) nan ≡ (f k).im
unfolding cells_of
im-at zero k f h = absurd (omega arith)
im-at (suc m) k f h =
    ⊎_elim
    (λ (e : k ≡ m).
    rw (e, ← append_snoc (cells_of m f) (f m).re ((f m).im ∷ []))
    (get_or_at (cells_of m f ++ (f m).re ∷ []) (f m).im [] nan (2 * m + 1) (length-append (cells_of m f) ((f m).re ∷ []) ∙ omega (arith, length-cells m f))))
    (λ (e : k < m). get_or-append (cells_of m f) ((f m).re ∷ (f m).im ∷ []) nan (2 * k + 1) (omega (arith, length-cells m f)) ∙ im-at m k f e)
    (eq-or-lt_of_le (omega arith))

pub cell-written : (m k : ℕ) (f : ℕ → Complex) (old : List Float) → k < m → cell_at (written m f old) k ≡ f k
unfolding written
cell-written m k f old h =
    ap₂ (λ (a b : Float). record { re = a; im = b })
    (get_or-append (cells_of m f) (drop (2 * m) old) nan (2 * k) (omega (arith, length-cells m f)) ∙ re-at m k f h)
    (get_or-append (cells_of m f) (drop (2 * m) old) nan (2 * k + 1) (omega (arith, length-cells m f)) ∙ im-at m k f h)

-- two tables with the same cells
pub cells_same : (m : ℕ) (f g : ℕ → Complex) → ((k : ℕ) → k < m → f k ≡ g k) → cells_of m f ≡ cells_of m g
unfolding cells_of
cells_same zero f g h = refl
cells_same (suc m) f g h =
    let e : f m ≡ g m = h m (omega arith) in
    rw (cells_same m f g (λ k l. h k (omega arith)), e)

pub components-bad : (l : List Float) (i : ℕ) → i < length l → allowed (get_or l i nan) ≡ false → components i (drop i l) ≡ (7, i / 2)
unfolding components
components-bad l i h e = rw (drop-cons l i nan, e)

pub components-good : (l : List Float) (i : ℕ) → i < length l → allowed (get_or l i nan) ≡ true
    → components i (drop i l) ≡ components (i + 1) (drop (i + 1) l)
unfolding components
components-good l i h e = rw (add-one, drop-cons l i nan, e)

pub components-end : (l : List Float) (i : ℕ) → length l ≤ i → components i (drop i l) ≡ done
unfolding components
components-end l i h = rw (drop_of_length-le l h)

-- 0 or 7
pub components-small : (i : ℕ) (l : List Float) → (components i l).0 < 8
unfolding components
components-small i [] = omega arith
components-small i (x ∷ l) = refuse-small (not (allowed x)) 7 (i / 2) (components (suc i) l) (omega arith) (components-small (suc i) l)

-- a cell of a list of cells
pub cell-of : (m k : ℕ) (f : ℕ → Complex) → k < m → cell_at (cells_of m f) k ≡ f k
unfolding written
cell-of m k f h =
    let e : written m f [] ≡ cells_of m f = rw (drop-nil, append-nil) in
    rw e at (cell-written m k f [] h)
