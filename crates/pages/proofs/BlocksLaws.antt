-- Laws of what `specs/Blocks.antt` defines. Assumes nothing.
use mathlib.Core.Bool.{Bool, true, false, ◌&&◌}
use mathlib.Core.Path.{◌≡◌, refl, sym, ap, ap₂, ◌∙◌}
use Prim.Native.Nat.{ℕ, zero, suc, ◌+◌, ◌*◌, ◌≤◌, ◌<◌}
use native.Mathlib.Numerals.{add-one}
use native.Mathlib.Omega.{arith}
use borrow.Author.Tests.{eq-eqb}
use lib.Ieee.{binary64, to_bits}
use Rattle.complex.specs.declared.Complex.{Complex}
use Rattle.density_entries.specs.declared.Block.{Block}
use Rattle.density_entries.proofs.BlocksLaws.{block_same}
use Rattle.pages.specs.Blocks.{same_cell, same_block, block_at, same_row, same_rows}

pub and-false : (t : Bool) → (t && false) ≡ false
and-false true = refl
and-false false = refl

-- ---- two cells

module _ (z w : Complex) where
  pub cell-yes : to_bits binary64 z.re ≡ to_bits binary64 w.re → to_bits binary64 z.im ≡ to_bits binary64 w.im → same_cell z w ≡ true
  unfolding same_cell
  cell-yes e f = ap₂ ◌&&◌ (eq-eqb _ _ e) (eq-eqb _ _ f)

-- ---- a block

block-self : (a : Block) → same_block a a ≡ true
unfolding same_block
block-self a =
    ap₂ ◌&&◌ (ap₂ ◌&&◌ (cell-yes a.first a.first refl refl) (cell-yes a.second a.second refl refl))
    (ap₂ ◌&&◌ (cell-yes a.third a.third refl refl) (cell-yes a.fourth a.fourth refl refl))

-- ---- the loops

module _ (f g : ℕ → ℕ → Complex) where
  pub row-none : (t : ℕ) → true ≡ same_row f g t 0
  unfolding same_row
  row-none t = refl

  pub row_more : (t u : ℕ) (y y' same : Bool) → y ≡ same_row f g t u → same ≡ same_block (block_at f t u) (block_at g t u) → y' ≡ y && same
      → y' ≡ same_row f g t (u + 1)
  unfolding same_row
  row_more t u y y' same i e h = h ∙ ap₂ ◌&&◌ i e ∙ ap (same_row f g t) (sym (add-one u))

  pub rows_none : true ≡ same_rows f g 0
  unfolding same_rows
  rows_none = refl

  pub rows_more : (t : ℕ) (y y' same : Bool) → y ≡ same_rows f g t → same ≡ same_row f g t (t + 1) → y' ≡ y && same → y' ≡ same_rows f g (t + 1)
  unfolding same_rows
  rows_more t y y' same i e h = h ∙ ap₂ ◌&&◌ i e ∙ ap (same_rows f g) (sym (add-one t))

  -- two tables that have the same entries
  module _ (dim : ℕ) (h : (r c : ℕ) → r < dim → c < dim → f r c ≡ g r c) where
    block-at : (t u : ℕ) → 2 * t + 1 < dim → 2 * u + 1 < dim → same_block (block_at f t u) (block_at g t u) ≡ true
    block-at t u ht hu =
        ap (same_block (block_at f t u))
        (sym (block_same (h (2 * t) (2 * u) (omega arith) (omega arith)) (h (2 * t) (2 * u + 1) (omega arith) hu) (h (2 * t + 1) (2 * u) ht (omega arith)) (h (2 * t + 1) (2 * u + 1) ht hu)))
        ∙ block-self (block_at f t u)

    row-yes : (t u : ℕ) → 2 * t + 1 < dim → 2 * u ≤ dim → same_row f g t u ≡ true
    unfolding same_row
    row-yes t zero ht hu = refl
    row-yes t (suc u) ht hu = ap₂ ◌&&◌ (row-yes t u ht (omega arith)) (block-at t u ht (omega arith))

    pub rows-yes : (t : ℕ) → 2 * t ≤ dim → same_rows f g t ≡ true
    unfolding same_rows
    rows-yes zero ht = refl
    rows-yes (suc t) ht = ap₂ ◌&&◌ (rows-yes t (omega arith)) (row-yes t (t + 1) (omega arith) (omega arith))
