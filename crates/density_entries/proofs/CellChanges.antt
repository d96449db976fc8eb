-- A list's cells after one of them was set, and a list whose first cells are known one by one. Assumes nothing.
use mathlib.Core.Path.{◌≡◌, sym, ap, ap₂, ◌∙◌}
use mathlib.Core.List.{List}
use Prim.Native.Nat.{ℕ, zero, suc, ◌+◌, ◌*◌, ◌≤◌, ◌<◌}
use native.Mathlib.Numerals.{add-one}
use native.Mathlib.Omega.{arith}
use lib.Ieee.{Float, nan}
use lib.ListN.{length, get_or, set, drop, length-set}
use lib.Seq.{get_or-set_same, get_or-set_other, drop-set-lt, set-get_or}
use Rattle.complex.specs.declared.Complex.{Complex}
use Rattle.complex.specs.Arithmetic.{complex_of}
use Rattle.complex.specs.Cells.{cell_at, set_cell, written}
use Rattle.complex.proofs.CellLaws.{written_none, written-more}

pub length-set_cell : (s : List Float) (k : ℕ) (z : Complex) → length (set_cell s k z) ≡ length s
length-set_cell s k z = simp length-set

pub cell_same : (s : List Float) (k : ℕ) (z : Complex) → 2 * k + 1 < length s → cell_at (set_cell s k z) k ≡ z
cell_same s k z h =
    let a = set s (2 * k) z.re in
    ap₂ complex_of
    (get_or-set_other a (2 * k + 1) (2 * k) z.im nan (λ e. omega arith) ∙ get_or-set_same s (2 * k) z.re nan (omega arith))
    (get_or-set_same a (2 * k + 1) z.im nan (omega (arith, length-set s (2 * k) z.re)))

-- a number that stands in no part of the cell
number-other : (s : List Float) (k i : ℕ) (z : Complex) → (i ≡ 2 * k → ⊥) → (i ≡ 2 * k + 1 → ⊥) → get_or (set_cell s k z) i nan ≡ get_or s i nan
number-other s k i z g h = get_or-set_other (set s (2 * k) z.re) (2 * k + 1) i z.im nan h ∙ get_or-set_other s (2 * k) i z.re nan g

pub cell_other : (s : List Float) (k j : ℕ) (z : Complex) → (j ≡ k → ⊥) → cell_at (set_cell s k z) j ≡ cell_at s j
cell_other s k j z h =
    ap₂ complex_of
    (number-other s k (2 * j) z (λ e. h (omega arith)) (λ e. omega arith))
    (number-other s k (2 * j + 1) z (λ e. omega arith) (λ e. h (omega arith)))

-- the numbers past the first m cells
pub past-cells : (s : List Float) (m k : ℕ) (z : Complex) → k < m → drop (2 * m) (set_cell s k z) ≡ drop (2 * m) s
past-cells s m k z h =
    drop-set-lt (2 * m) (set s (2 * k) z.re) (2 * k + 1) z.im (omega arith) ∙ drop-set-lt (2 * m) s (2 * k) z.re (omega arith)

set-cell-itself : (s : List Float) (k : ℕ) → set_cell s k (cell_at s k) ≡ s
set-cell-itself s k = rw (set-get_or s (2 * k) nan, set-get_or s (2 * k + 1) nan)

-- a list whose first m cells are f's
pub whole : (m : ℕ) (f : ℕ → Complex) (s : List Float) → 2 * m ≤ length s → ((k : ℕ) → k < m → cell_at s k ≡ f k) → s ≡ written m f s
whole zero f s l h = written_none f s
whole (suc m) f s l h =
    sym (set-cell-itself s m)
    ∙ ap₂ (λ (x : List Float) (z : Complex). set_cell x m z) (whole m f s (omega arith) (λ k g. h k (omega arith))) (h m (omega arith))
    ∙ written-more m f s (omega arith) ∙ ap (λ (x : ℕ). written x f s) (add-one m)
