-- Laws of what `specs/Pairs.antt` defines. Assumes nothing.
use mathlib.Core.Path.{◌≡◌, sym, ap, ◌∙◌}
use mathlib.Core.List.{List}
use mathlib.Core.Logic.{⊎_elim}
use Prim.Native.Nat.{ℕ, ◌+◌, ◌*◌, ◌≤◌, ◌<◌}
use native.Mathlib.Nat.{eq-or-lt_of_le}
use native.Mathlib.Omega.{arith}
use lib.Arith.{digits_lt}
use lib.Ieee.{Float}
use lib.ListN.{length, drop}
use Rattle.complex.specs.declared.Complex.{Complex}
use Rattle.complex.specs.Cells.{cell_at, set_cell}
use Rattle.density_entries.proofs.CellChanges.{length-set_cell, cell_same, cell_other, past-cells}
use Rattle.density_entries.specs.Squares.{Square, entry_at}
use Rattle.density_entries.proofs.MirroredLaws.{cell_in, same_row, same-column}
use Rattle.density_entries.specs.Pairs.{set_pair, RowIs}

pub length-set_pair : (s : List Float) (dim r c : ℕ) (x y : Complex) → length (set_pair s dim r c x y) ≡ length s
unfolding set_pair
length-set_pair s dim r c x y = length-set_cell (set_cell s (r * dim + c) x) (r * dim + c + 1) y ∙ length-set_cell s (r * dim + c) x

pub past-pair : (s : List Float) (dim r c : ℕ) (x y : Complex) → r < dim → c + 1 < dim
    → drop (2 * (dim * dim)) (set_pair s dim r c x y) ≡ drop (2 * (dim * dim)) s
unfolding set_pair
past-pair s dim r c x y hr hc =
    let h : r * dim + (c + 1) < dim * dim = digits_lt hr hc in
    past-cells (set_cell s (r * dim + c) x) (dim * dim) (r * dim + c + 1) y (omega arith) ∙ past-cells s (dim * dim) (r * dim + c) x (omega arith)

-- an entry of another row, or of another column
pub pair-other : (s : List Float) (dim r c : ℕ) (x y : Complex) (r' c' : ℕ) → c + 1 < dim → c' < dim → (r' ≡ r → c' ≡ c → ⊥) → (r' ≡ r → c' ≡ c + 1 → ⊥)
    → entry_at (set_pair s dim r c x y) dim r' c' ≡ entry_at s dim r' c'
unfolding set_pair
pair-other s dim r c x y r' c' hc hc' g h =
    let a : r * dim + c + 1 ≡ r * dim + (c + 1) = omega arith in
    cell_other (set_cell s (r * dim + c) x) (r * dim + c + 1) (r' * dim + c') y
    (λ e. h (same_row dim r' c' r (c + 1) hc' hc (e ∙ a)) (same-column dim r' c' r (c + 1) hc' hc (e ∙ a)))
    ∙ cell_other s (r * dim + c) (r' * dim + c') x
    (λ e. g (same_row dim r' c' r c hc' (omega arith) e) (same-column dim r' c' r c hc' (omega arith) e))

module _ (s : List Float) (dim r c : ℕ) (x y : Complex) (p : Square dim s) (hr : r < dim) (hc : c + 1 < dim) where
  pair_left : entry_at (set_pair s dim r c x y) dim r c ≡ x
  unfolding set_pair
  pair_left =
      cell_other (set_cell s (r * dim + c) x) (r * dim + c + 1) (r * dim + c) y (λ e. omega arith)
      ∙ cell_same s (r * dim + c) x (cell_in dim s r c p hr (omega arith))

  pair-right : entry_at (set_pair s dim r c x y) dim r (c + 1) ≡ y
  unfolding set_pair
  pair-right =
      let a : r * dim + (c + 1) ≡ r * dim + c + 1 = omega arith in
      ap (cell_at (set_pair s dim r c x y)) a
      ∙ cell_same (set_cell s (r * dim + c) x) (r * dim + c + 1) y (omega (arith, cell_in dim s r (c + 1) p hr hc, length-set_cell s (r * dim + c) x))

  -- the row that the pair is set in
  pub row_more : (f : ℕ → Complex) → x ≡ f c → y ≡ f (c + 1) → RowIs s dim r c f → RowIs (set_pair s dim r c x y) dim r (c + 2) f
  row_more f ex ey i = record {
    at = λ k h.
        ⊎_elim
        (λ (e : k ≡ c + 1). ap (entry_at (set_pair s dim r c x y) dim r) e ∙ pair-right ∙ ey ∙ ap f (sym e))
        (λ (g : k < c + 1).
        ⊎_elim
        (λ (e : k ≡ c). ap (entry_at (set_pair s dim r c x y) dim r) e ∙ pair_left ∙ ex ∙ ap f (sym e))
        (λ (l : k < c). pair-other s dim r c x y r k hc (omega arith) (λ _ e. omega arith) (λ _ e. omega arith) ∙ i.at k l)
        (eq-or-lt_of_le (omega arith)))
        (eq-or-lt_of_le (omega arith));
  }

-- any other row
pub entry_kept : (s : List Float) (dim r c : ℕ) (x y : Complex) (r' c' : ℕ) → c + 1 < dim → c' < dim → (r' ≡ r → ⊥)
    → entry_at (set_pair s dim r c x y) dim r' c' ≡ entry_at s dim r' c'
entry_kept s dim r c x y r' c' hc hc' n = pair-other s dim r c x y r' c' hc hc' (λ e _. n e) (λ e _. n e)

pub row_kept : (s : List Float) (dim r c : ℕ) (x y : Complex) (r' m : ℕ) (f : ℕ → Complex) → c + 1 < dim → m ≤ dim → (r' ≡ r → ⊥)
    → RowIs s dim r' m f → RowIs (set_pair s dim r c x y) dim r' m f
row_kept s dim r c x y r' m f hc hm n i = record { at = λ k h. entry_kept s dim r c x y r' k hc (omega arith) n ∙ i.at k h }
