-- Laws of what `specs/CornerRows.antt` defines. Assumes nothing.
use mathlib.Core.Path.{◌≡◌, refl, sym, ap, ap₂, subst, ◌∙◌}
use mathlib.Core.List.{List}
use mathlib.Core.Logic.{⊎_elim}
use Prim.Native.Nat.{ℕ, ◌+◌, ◌*◌, ◌≤◌, ◌<◌}
use native.Mathlib.Nat.{eq-or-lt_of_le}
use native.Mathlib.Omega.{arith}
use lib.Arith.{digits_lt}
use lib.Ieee.{Float}
use Rattle.complex.specs.declared.Complex.{Complex}
use Rattle.complex.specs.Arithmetic.{complex_of}
use Rattle.complex.specs.Cells.{set_cell}
use Rattle.complex.specs.Zeros.{zero_float}
use Rattle.density_entries.proofs.CellChanges.{length-set_cell, cell_same, cell_other, past-cells}
use Rattle.density_entries.specs.Squares.{Square, entry_at}
use Rattle.density_entries.proofs.MirroredLaws.{cell_in, same_row, same-column}
use Rattle.density_entries.specs.Pairs.{set_pair, RowIs}
use Rattle.density_entries.proofs.PairsLaws.{length-set_pair, past-pair, row_more, entry_kept}
use Rattle.density_entries.specs.Filled.{LowerSteps}
use Rattle.density_diagonal.specs.LeftRows.{LeftSteps}
use Rattle.density_diagonal.specs.CornerRows.{corner_set, corner_filled}

-- the two writes that set them
pub corner-written : (f : ℕ → ℕ → Complex) (dim t : ℕ) (old mid end : List Float) (x y z : Complex) → mid ≡ set_cell old (2 * t * dim + 2 * t) x
    → end ≡ set_pair mid dim (2 * t + 1) (2 * t) y z → x ≡ f (2 * t) (2 * t) → y ≡ f (2 * t + 1) (2 * t) → z ≡ f (2 * t + 1) (2 * t + 1)
    → end ≡ corner_set f dim t old
unfolding corner_set
corner-written f dim t old mid end x y z em ee ex ey ez =
    ee ∙ ap₂ (λ (s : List Float) (k : Complex). set_pair s dim (2 * t + 1) (2 * t) k z) (em ∙ ap (set_cell old (2 * t * dim + 2 * t)) ex) ey
    ∙ ap (set_pair (set_cell old (2 * t * dim + 2 * t) (f (2 * t) (2 * t))) dim (2 * t + 1) (2 * t) (f (2 * t + 1) (2 * t))) ez

-- the write above the diagonal
pub corner-filled : (f : ℕ → ℕ → Complex) (dim t : ℕ) (old end last : List Float) (p q : Float) (z : Complex) → end ≡ corner_set f dim t old
    → last ≡ set_cell end (2 * t * dim + (2 * t + 1)) z → z ≡ complex_of p q → complex_of p zero_float ≡ f (2 * t) (2 * t)
    → complex_of q zero_float ≡ f (2 * t + 1) (2 * t + 1) → last ≡ corner_filled f dim t old
unfolding corner_filled
corner-filled f dim t old end last p q z ee el ez ep eq =
    el
    ∙ ap₂ (λ (s : List Float) (k : Complex). set_cell s (2 * t * dim + (2 * t + 1)) k) ee
    (ez ∙ ap₂ complex_of (ap (λ (k : Complex). k.re) ep) (ap (λ (k : Complex). k.re) eq))

-- a cell above the diagonal is none of the lower half's
above_kept : (dim : ℕ) (f : ℕ → ℕ → Complex) (old now : List Float) (t r c : ℕ) (z : Complex) → r < c → c < dim → LowerSteps dim f old now t
    → LowerSteps dim f old (set_cell now (r * dim + c) z) t
above_kept dim f old now t r c z h hc i = record {
  within = i.within;
  long = length-set_cell now (r * dim + c) z ∙ i.long;
  surplus = past-cells now (dim * dim) (r * dim + c) z (digits_lt (omega arith) hc) ∙ i.surplus;
  rows = λ r' c' hr hd.
      let hb : c' < dim = omega (arith, i.within) in
      cell_other now (r * dim + c) (r' * dim + c') z (λ e. omega (arith, same_row dim r' c' r c hb hc e, same-column dim r' c' r c hb hc e)) ∙ i.rows r' c' hr hd;
}

module _ (dim : ℕ) (f : ℕ → ℕ → Complex) (old now mid : List Float) (t : ℕ) (p : Square dim old) (h : 2 * t + 1 < dim)
    (i : LowerSteps dim f old now t) (j : LeftSteps dim t f now mid t) where
  abbrev one : List Float
  one = set_cell mid (2 * t * dim + 2 * t) (f (2 * t) (2 * t))

  abbrev end : List Float
  end = set_pair one dim (2 * t + 1) (2 * t) (f (2 * t + 1) (2 * t)) (f (2 * t + 1) (2 * t + 1))

  mid-room : Square dim mid
  mid-room = record { small = p.small; room = omega (arith, p.room, i.long, j.long) }

  one-room : Square dim one
  one-room = record { small = p.small; room = omega (arith, mid-room.room, length-set_cell mid (2 * t * dim + 2 * t) (f (2 * t) (2 * t))) }

  -- an entry of another row
  one-other : (r c : ℕ) → c < dim → (r ≡ 2 * t → ⊥) → entry_at one dim r c ≡ entry_at mid dim r c
  one-other r c hc n =
      cell_other mid (2 * t * dim + 2 * t) (r * dim + c) (f (2 * t) (2 * t)) (λ e. n (same_row dim r c (2 * t) (2 * t) hc (omega arith) e))

  lower : RowIs end dim (2 * t + 1) (2 * t + 2) (f (2 * t + 1))
  lower =
      row_more one dim (2 * t + 1) (2 * t) (f (2 * t + 1) (2 * t)) (f (2 * t + 1) (2 * t + 1)) one-room h h (f (2 * t + 1)) refl refl
      (record { at = λ c g. one-other (2 * t + 1) c (omega arith) (λ e. omega arith) ∙ j.lower.at c g })

  kept : (r c : ℕ) → c < dim → (r ≡ 2 * t + 1 → ⊥) → entry_at end dim r c ≡ entry_at one dim r c
  kept r c hc n = entry_kept one dim (2 * t + 1) (2 * t) (f (2 * t + 1) (2 * t)) (f (2 * t + 1) (2 * t + 1)) r c h hc n

  upper : (c : ℕ) → c ≤ 2 * t → entry_at end dim (2 * t) c ≡ f (2 * t) c
  upper c g =
      kept (2 * t) c (omega arith) (λ e. omega arith)
      ∙ ⊎_elim
      (λ (e : c ≡ 2 * t).
      ap (λ (x : ℕ). entry_at one dim (2 * t) x) e
      ∙ cell_same mid (2 * t * dim + 2 * t) (f (2 * t) (2 * t)) (cell_in dim mid (2 * t) (2 * t) mid-room (omega arith) (omega arith)) ∙ ap (f (2 * t)) (sym e))
      (λ (q : c < 2 * t). cell_other mid (2 * t * dim + 2 * t) (2 * t * dim + c) (f (2 * t) (2 * t)) (λ e. omega arith) ∙ j.upper.at c q)
      (eq-or-lt_of_le g)

  whole : LowerSteps dim f old end (t + 1)
  whole = record {
    within = omega arith;
    long = length-set_pair one dim (2 * t + 1) (2 * t) (f (2 * t + 1) (2 * t)) (f (2 * t + 1) (2 * t + 1)) ∙ length-set_cell mid (2 * t * dim + 2 * t) (f (2 * t) (2 * t)) ∙ j.long ∙ i.long;
    surplus = past-pair one dim (2 * t + 1) (2 * t) (f (2 * t + 1) (2 * t)) (f (2 * t + 1) (2 * t + 1)) h h
        ∙ past-cells mid (dim * dim) (2 * t * dim + 2 * t) (f (2 * t) (2 * t)) (digits_lt (omega arith) (omega arith)) ∙ j.surplus ∙ i.surplus;
    rows = λ r c hr hc.
        ⊎_elim
        (λ (e : r ≡ 2 * t + 1). ap (λ (x : ℕ). entry_at end dim x c) e ∙ lower.at c (omega arith) ∙ ap (λ (x : ℕ). f x c) (sym e))
        (λ (g : r < 2 * t + 1).
        ⊎_elim
        (λ (e : r ≡ 2 * t). ap (λ (x : ℕ). entry_at end dim x c) e ∙ upper c (omega arith) ∙ ap (λ (x : ℕ). f x c) (sym e))
        (λ (l : r < 2 * t). kept r c (omega arith) (λ e. omega arith) ∙ one-other r c (omega arith) (λ e. omega arith) ∙ j.kept r c l hc ∙ i.rows r c l hc)
        (eq-or-lt_of_le (omega arith)))
        (eq-or-lt_of_le (omega arith));
  }

  -- TWO MORE ROWS
  pub corner-lower : (last : List Float) → last ≡ corner_filled f dim t mid → LowerSteps dim f old last (t + 1)
  unfolding corner_set corner_filled
  corner-lower last e =
      subst (λ (x : List Float). LowerSteps dim f old x (t + 1)) (sym e)
      (above_kept dim f old end (t + 1) (2 * t) (2 * t + 1) (complex_of (f (2 * t) (2 * t)).re (f (2 * t + 1) (2 * t + 1)).re) (omega arith) h whole)
