-- Laws of what `specs/Mirrored.antt` defines. Assumes nothing.
use mathlib.Core.Path.{◌≡◌, refl, sym, ap, subst, ◌∙◌}
use mathlib.Core.Bool.{Bool, true, false}
use mathlib.Core.List.{List, ◌++◌}
use mathlib.Core.Logic.{⊎_elim}
use Prim.Native.Nat.{ℕ, ◌+◌, ◌*◌, ◌/◌, ◌%◌, ◌≤◌, ◌<◌}
use native.Mathlib.Nat.{div-add-mod', mod-lt, div-lt_iff_lt-mul, mul-le-mul, eq-or-lt_of_le, eq-zero-or-pos, zero-mul}
use native.Mathlib.Omega.{arith}
use borrow.Author.Tests.{leb-true, leb-false}
use lib.Arith.{digits_lt, digits_div, digits_mod}
use lib.Dec.{leb}
use lib.Ieee.{Float}
use lib.ListN.{length, drop}
use Rattle.complex.specs.declared.Complex.{Complex}
use Rattle.complex.specs.Arithmetic.{conjugate}
use Rattle.complex.specs.Cells.{cell_at, set_cell, cells_of, written}
use Rattle.complex.proofs.Loops.{cond_yes, cond_no}
use Rattle.density_entries.proofs.CellChanges.{length-set_cell, cell_same, cell_other, past-cells, whole}
use Rattle.density_entries.specs.Squares.{Square, entry_at, mirror_cell, mirrored_entry}
use Rattle.density_entries.specs.Mirrored.{ColumnSteps}

pub square-small : (dim : ℕ) → dim ≤ 64 → dim * dim ≤ 4096
square-small dim h = mul-le-mul h h

-- the cell of row t and column u lies in the matrix
pub index-small : (dim t u : ℕ) → dim ≤ 64 → t < dim → u < dim → t * dim + u < 4096
index-small dim t u h ht hu = omega (arith, digits_lt ht hu, square-small dim h)

pub cell_in : (dim : ℕ) (s : List Float) (t u : ℕ) → Square dim s → t < dim → u < dim → 2 * (t * dim + u) + 1 < length s
cell_in dim s t u p ht hu = omega (arith, digits_lt ht hu, p.room)

-- two cells with one number have one row and one column
pub same_row : (dim t u r c : ℕ) → u < dim → c < dim → t * dim + u ≡ r * dim + c → t ≡ r
same_row dim t u r c hu hc e = sym (digits_div t hu) ∙ ap (λ (x : ℕ). x / dim) e ∙ digits_div r hc

pub same-column : (dim t u r c : ℕ) → u < dim → c < dim → t * dim + u ≡ r * dim + c → u ≡ c
same-column dim t u r c hu hc e = sym (digits_mod t hu) ∙ ap (λ (x : ℕ). x % dim) e ∙ digits_mod r hc

-- left of column t the upper half is the conjugate of the lower, and every other cell is as it was
pub record MirrorSteps (dim : ℕ) (s end : List Float) (t : ℕ) : Type 0 where
  pub within : t ≤ dim
  pub long : length end ≡ length s
  pub surplus : drop (2 * (dim * dim)) end ≡ drop (2 * (dim * dim)) s
  pub mirrored : (r c : ℕ) → r < c → c < t → entry_at end dim r c ≡ conjugate (entry_at s dim c r)
  pub kept : (r c : ℕ) → r < dim → c < dim → (r < c → c < t → ⊥) → entry_at end dim r c ≡ entry_at s dim r c

pub column-step : (dim t : ℕ) (s now end : List Float) (u : ℕ) (z : Complex) → Square dim s → t < dim → ColumnSteps dim t s now u → u < t
    → z ≡ conjugate (entry_at now dim t u) → end ≡ set_cell now (u * dim + t) z → ColumnSteps dim t s end (u + 1)
column-step dim t s now end u z p ht i hu ez ee =
    let inside = cell_in dim s u t p (omega arith) ht in
    let zs : z ≡ conjugate (entry_at s dim t u) = ez ∙ ap conjugate (i.kept t u ht (omega arith) (λ e h. omega arith)) in
    record {
      within = omega arith;
      long = ap length ee ∙ length-set_cell now (u * dim + t) z ∙ i.long;
      surplus = ap (drop (2 * (dim * dim))) ee ∙ past-cells now (dim * dim) (u * dim + t) z (digits_lt (omega arith) ht) ∙ i.surplus;
      mirrored = λ r h.
          ap (λ (x : List Float). entry_at x dim r t) ee
          ∙ ⊎_elim
          (λ (e : r ≡ u). ap (λ (x : ℕ). cell_at (set_cell now (u * dim + t) z) (x * dim + t)) e ∙ cell_same now (u * dim + t) z (omega (arith, i.long)) ∙ zs ∙ ap (λ (x : ℕ). conjugate (entry_at s dim t x)) (sym e))
          (λ (g : r < u). cell_other now (u * dim + t) (r * dim + t) z (λ e. omega (arith, same_row dim r t u t ht ht e)) ∙ i.mirrored r g)
          (eq-or-lt_of_le (omega arith));
      kept = λ r c hr hc n.
          ap (λ (x : List Float). entry_at x dim r c) ee
          ∙ cell_other now (u * dim + t) (r * dim + c) z
          (λ e. n (same-column dim r c u t hc ht e) (omega (arith, same_row dim r c u t hc ht e)))
          ∙ i.kept r c hr hc (λ e h. n e (omega arith));
    }

pub row-end : (dim : ℕ) (s end : List Float) (t : ℕ) → MirrorSteps dim s end t → dim ≤ t → MirrorSteps dim s end dim
row-end dim s end t i h = let e : t ≡ dim = omega (arith, i.within) in subst (λ (x : ℕ). MirrorSteps dim s end x) e i

-- when the rows are done, each entry is the mirrored one
entry-end : (dim : ℕ) (s end : List Float) (r c : ℕ) → MirrorSteps dim s end dim → r < dim → c < dim → (b : Bool) → leb c r ≡ b
    → entry_at end dim r c ≡ mirrored_entry (entry_at s dim) r c
entry-end dim s end r c i hr hc true e =
    i.kept r c hr hc (λ g h. omega (arith, leb-true c r e)) ∙ sym (cond_yes (entry_at s dim r c) (conjugate (entry_at s dim c r)) e)
entry-end dim s end r c i hr hc false e =
    i.mirrored r c (leb-false c r e) hc ∙ sym (cond_no (entry_at s dim r c) (conjugate (entry_at s dim c r)) e)

-- the row and the column of a cell's number
pub row_of : (dim k : ℕ) → k < dim * dim → k / dim < dim
row_of dim k h =
    ⊎_elim
    (λ (e : dim ≡ 0). let z : dim * dim ≡ 0 = ap (λ (x : ℕ). x * dim) e ∙ zero-mul dim in absurd (omega arith))
    (λ (g : 0 < dim). (div-lt_iff_lt-mul g).1 h)
    (eq-zero-or-pos dim)

pub column-of : (dim k : ℕ) → k < dim * dim → k % dim < dim
column-of dim k h =
    ⊎_elim
    (λ (e : dim ≡ 0). let z : dim * dim ≡ 0 = ap (λ (x : ℕ). x * dim) e ∙ zero-mul dim in absurd (omega arith))
    (λ (g : 0 < dim). mod-lt k g)
    (eq-zero-or-pos dim)

pub mirror-cell : (dim : ℕ) (s end : List Float) → MirrorSteps dim s end dim → (k : ℕ) → k < dim * dim → cell_at end k ≡ mirror_cell s dim k
mirror-cell dim s end i k h =
    ap (cell_at end) (sym (div-add-mod' k dim))
    ∙ entry-end dim s end (k / dim) (k % dim) i (row_of dim k h) (column-of dim k h) (leb (k % dim) (k / dim)) refl

-- the list at the end, from its cells and its surplus
pub table-end : (m : ℕ) (f : ℕ → Complex) (s end : List Float) → 2 * m ≤ length end → drop (2 * m) end ≡ drop (2 * m) s
    → ((k : ℕ) → k < m → cell_at end k ≡ f k) → end ≡ written m f s
unfolding written
table-end m f s end room surplus cells = whole m f end room cells ∙ ap (λ (x : List Float). cells_of m f ++ x) surplus

pub mirror-end : (dim : ℕ) (s end : List Float) → Square dim s → MirrorSteps dim s end dim → end ≡ written (dim * dim) (mirror_cell s dim) s
mirror-end dim s end p i = table-end (dim * dim) (mirror_cell s dim) s end (omega (arith, p.room, i.long)) i.surplus (mirror-cell dim s end i)
