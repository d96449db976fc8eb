-- DEMAND 3, a: the cut matrix holds each amplitude once, in the cell that its index bits name. Assumes nothing.
use mathlib.Core.Path.{◌≡◌, sym, ap, ap₂, ◌∙◌}
use mathlib.Core.List.{List}
use Prim.Native.Nat.{ℕ, ◌+◌, ◌-◌, ◌*◌, ◌/◌, ◌%◌, ◌^◌, ◌<◌}
use native.Mathlib.Nat.{mul_comm, div-lt_iff_lt-mul, div-add-mod', mod-lt}
use lib.Arith.{digits_lt, digits_div, digits_mod}
use lib.Bits.{bit_or, or_lt}
use lib.Ieee.{Float}
use lib.Pow.{pow_pos}
use Rattle.submasks.specs.Submasks.{submask_at, submask_number, others}
use Rattle.submasks.proofs.SubmaskLaws.{submask_count, submask_at-lt, union, met, row_of, column-of, counts, submask_number-lt}
use Rattle.complex.specs.Cells.{cell_at, written}
use Rattle.complex.proofs.CellLaws.{cell-written}
use Rattle.cut_sides.specs.Sides.{side, row_mask, column_mask, Parted}
use Rattle.cut_sides.proofs.SideLaws.{two-sides}
use Rattle.cuts.specs.Cut.{cut_cell, source_of}
use Rattle.agreement.specs.FromCut.{place_of}

-- the two maps are each other's inverse, for any mask and the digits that it has not
module _ (n row column rows columns : ℕ) (lt : row < 2 ^ n) (oth : column ≡ others n row) (er : submask_count n row ≡ rows)
    (ec : submask_count n column ≡ columns) where
  size : columns * rows ≡ 2 ^ n
  size = mul_comm columns rows ∙ ap₂ (λ (a b : ℕ). a * b) (sym er) (sym ec ∙ ap (submask_count n) oth) ∙ counts n row lt

  row_lt : (x : ℕ) → submask_number n row x < rows
  row_lt x = rw er at (submask_number-lt n row x)

  column-lt : (x : ℕ) → submask_number n column x < columns
  column-lt x = rw ec at (submask_number-lt n column x)

  in-matrix : (x : ℕ) → submask_number n column x * rows + submask_number n row x < 2 ^ n
  in-matrix x = rw size at (digits_lt (column-lt x) (row_lt x))

  there : (x : ℕ) → x < 2 ^ n
      → bit_or (submask_at n row ((submask_number n column x * rows + submask_number n row x) % rows))
      (submask_at n column ((submask_number n column x * rows + submask_number n row x) / rows))
      ≡ x
  there x h =
      rw (digits_mod (submask_number n column x) (row_lt x), digits_div (submask_number n column x) (row_lt x), oth)
      (union n row (submask_number n row x) (submask_number n (others n row) x) lt ∙ met n row x lt h)

  back : (k : ℕ) → k < 2 ^ n → 0 < rows
      → submask_number n column (bit_or (submask_at n row (k % rows)) (submask_at n column (k / rows))) * rows
      + submask_number n row (bit_or (submask_at n row (k % rows)) (submask_at n column (k / rows)))
      ≡ k
  back k h some =
      let r : k % rows < submask_count n row = rw er (mod-lt k some) in
      let q : k / rows < submask_count n column = rw ec ((div-lt_iff_lt-mul some).1 (rw size h)) in
      let u : bit_or (submask_at n row (k % rows)) (submask_at n column (k / rows)) ≡ submask_at n row (k % rows) + submask_at n (others n row) (k / rows)
      = rw oth (union n row (k % rows) (k / rows) lt) in
      let a : submask_number n row (bit_or (submask_at n row (k % rows)) (submask_at n column (k / rows))) ≡ k % rows
      = ap (submask_number n row) u ∙ row_of n row (k % rows) (k / rows) lt r in
      let b : submask_number n column (bit_or (submask_at n row (k % rows)) (submask_at n column (k / rows))) ≡ k / rows
      = ap₂ (submask_number n) oth u ∙ column-of n row (k % rows) (k / rows) lt (rw oth at q) in
      rw (a, b) (div-add-mod' k rows)

-- every amplitude has its cell, every cell its amplitude, and neither has two
pub record Once (n : ℕ) (l : List ℕ) : Type 0 where
  pub in-matrix : (x : ℕ) → place_of n l x < 2 ^ n
  pub there : (x : ℕ) → x < 2 ^ n → source_of n l (place_of n l x) ≡ x
  pub alone : (k : ℕ) → k < 2 ^ n → place_of n l (source_of n l k) ≡ k

pub source-lt : (n : ℕ) (l : List ℕ) (k : ℕ) → source_of n l k < 2 ^ n
source-lt n l k = or_lt n (submask_at n (row_mask l n) (k % 2 ^ side l n)) (submask_at n (column_mask l n) (k / 2 ^ side l n)) (submask_at-lt n (row_mask l n) (k % 2 ^ side l n)) (submask_at-lt n (column_mask l n) (k / 2 ^ side l n))

module _ (n : ℕ) (l : List ℕ) (p : Parted l n) where
  pub once : Once n l
  once =
      let z = two-sides l n p in
      record {
        in-matrix = in-matrix n (row_mask l n) (column_mask l n) _ _ z.row_lt z.oth z.rows z.columns;
        there = there n (row_mask l n) (column_mask l n) _ _ z.row_lt z.oth z.rows z.columns;
        alone = λ k h. back n (row_mask l n) (column_mask l n) _ _ z.row_lt z.oth z.rows z.columns k h (pow_pos (side l n));
      }

  -- so the matrix has the amplitude x in x's cell
  pub amplitude-held : (s o : List Float) (x : ℕ) → x < 2 ^ n → cell_at (written (2 ^ n) (cut_cell s n l) o) (place_of n l x) ≡ cell_at s x
  amplitude-held s o x h = cell-written (2 ^ n) (place_of n l x) (cut_cell s n l) o (once.in-matrix x) ∙ ap (cell_at s) (once.there x h)
