-- Laws of what `specs/EntryLaws.antt` defines. Assumes nothing.
use mathlib.Core.Path.{◌≡◌, refl, sym, ap, ap₂, ◌∙◌}
use mathlib.Core.Bool.{Bool, true, false}
use mathlib.Core.List.{List, ◌++◌}
use Prim.Native.Nat.{ℕ, zero, suc, ◌-◌, ◌*◌, ◌/◌, ◌%◌, ◌≤◌, ◌<◌, ◌^◌}
use native.Mathlib.Omega.{arith}
use borrow.Author.Tests.{leb-true, leb-false}
use lib.Bits.{bit_or}
use lib.Dec.{leb}
use lib.Ieee.{Float}
use lib.ListN.{length, get_or, drop}
use Rattle.complex.specs.declared.Complex.{Complex}
use Rattle.complex.specs.Arithmetic.{sum_of, product, conjugate}
use Rattle.complex.specs.Cells.{cell_at, written}
use Rattle.complex.proofs.CellLaws.{cells_same}
use Rattle.complex.proofs.Loops.{cond_yes, cond_no}
use Rattle.submasks.specs.Submasks.{others}
use Rattle.qubits.specs.Lists.{Listed}
use Rattle.qubits.specs.Spread.{row_offset, named}
use Rattle.qubits.proofs.OtherLaws.{traced-submask}
use Rattle.density_entries.specs.Squares.{entry_at, mirror_cell, mirrored, mirrored_entry}
use Rattle.density_entries.proofs.MirroredLaws.{row_of, column-of}
use Rattle.density_entries.specs.Entries.{total, lower_entry, density_cell, entry_sum}
use Rattle.density_entries.specs.Filled.{table_entry}

-- two sums of the same terms
pub total-same : (m : ℕ) (f g : ℕ → Complex) → ((e : ℕ) → f e ≡ g e) → total m f ≡ total m g
unfolding total
total-same zero f g h = refl
total-same (suc m) f g h = ap₂ sum_of (total-same m f g h) (h m)

-- AN ENTRY IS A SUM OVER THE SUBMASKS OF THE OTHERS' MASK
pub lower-by-submasks : (n : ℕ) (l : List ℕ) (s : List Float) (t u : ℕ) → Listed n l
    → lower_entry n l s t u ≡ entry_sum n s (others n (named l)) (2 ^ (n - length l)) (row_offset l t) (row_offset l u)
lower-by-submasks n l s t u p =
    total-same (2 ^ (n - length l)) _ _
    (λ e.
    ap (λ (x : ℕ). product (cell_at s (bit_or (row_offset l t) x)) (conjugate (cell_at s (bit_or (row_offset l u) x)))) (traced-submask n l p e))

-- an entry by the table
pub table-entry : (n : ℕ) (l : List ℕ) (s : List Float) (table : List ℕ) (dim t u : ℕ) → Listed n l → ((k : ℕ) → k < dim → get_or table k 0 ≡ row_offset l k) → t < dim → u < dim
    → table_entry n s (others n (named l)) (2 ^ (n - length l)) table t u ≡ lower_entry n l s t u
table-entry n l s table dim t u p o ht hu =
    ap₂ (entry_sum n s (others n (named l)) (2 ^ (n - length l))) (o t ht) (o u hu) ∙ sym (lower-by-submasks n l s t u p)

-- ---- the lower half filled, and then mirrored

pub mirrored-same : (f g : ℕ → ℕ → Complex) (dim r c : ℕ) → ((t u : ℕ) → t < dim → u ≤ t → f t u ≡ g t u) → r < dim → c < dim → (b : Bool) → leb c r ≡ b
    → mirrored_entry f r c ≡ mirrored_entry g r c
mirrored-same f g dim r c h hr hc true e =
    cond_yes (f r c) (conjugate (f c r)) e ∙ h r c hr (leb-true c r e) ∙ sym (cond_yes (g r c) (conjugate (g c r)) e)
mirrored-same f g dim r c h hr hc false e =
    cond_no (f r c) (conjugate (f c r)) e ∙ ap conjugate (h c r hc (omega (arith, leb-false c r e))) ∙ sym (cond_no (g r c) (conjugate (g c r)) e)

-- a matrix whose lower half is the density's, mirrored, is the density
pub mirrored-density : (n : ℕ) (l : List ℕ) (s : List Float) (old out : List Float) (dim : ℕ) → dim ≡ 2 ^ length l
    → drop (2 * (dim * dim)) out ≡ drop (2 * (dim * dim)) old
    → ((t u : ℕ) → t < dim → u ≤ t → entry_at out dim t u ≡ lower_entry n l s t u)
    → mirrored out dim ≡ written (dim * dim) (density_cell n l s) old
unfolding written
mirrored-density n l s old out dim ed surplus rows =
    ap₂ (λ (x y : List Float). x ++ y)
    (cells_same (dim * dim) (mirror_cell out dim) (density_cell n l s)
    (λ k h.
    mirrored-same (entry_at out dim) (lower_entry n l s) dim (k / dim) (k % dim) rows (row_of dim k h) (column-of dim k h) (leb (k % dim) (k / dim)) refl
    ∙ ap (λ (d : ℕ). mirrored_entry (lower_entry n l s) (k / d) (k % d)) ed))
    surplus
