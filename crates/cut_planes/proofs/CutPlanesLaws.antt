-- Laws of the work matrix of a cut: a step of each of the two loops that gather it, and that it is the SVD's work matrix of the cut
-- matrix. Assumes nothing.
use mathlib.Core.Path.{◌≡◌, refl, sym, ap, ap₂, ◌∙◌}
use mathlib.Core.Bool.{Bool, true, false}
use mathlib.Core.List.{List}
use Prim.Native.Nat.{ℕ, zero, suc, ◌+◌, ◌-◌, ◌*◌, ◌/◌, ◌%◌, ◌^◌, ◌≤◌, ◌<◌}
use native.Mathlib.Nat.{zero-mul, mul_comm, div-lt_iff_lt-mul, mod-lt, zero-add}
use native.Mathlib.Omega.{arith}
use borrow.Author.Tests.{lt-ltb, le-ltb}
use lib.Arith.{digits_div, digits_mod, digits_lt}
use lib.Bits.{bit_or, or_comm}
use lib.Ieee.{Float}
use lib.ListN.{length}
use Rattle.submasks.specs.Submasks.{submask_at, next_submask}
use Rattle.submasks.proofs.SubmaskLaws.{submask_at-first}
use Rattle.complex.specs.declared.Complex.{Complex}
use Rattle.complex.specs.Arithmetic.{conjugate}
use Rattle.complex.specs.Cells.{cell_at, cells_of}
use Rattle.complex.proofs.CellLaws.{cell-of}
use Rattle.complex.proofs.Loops.{cond_yes, cond_no}
use Rattle.complex.specs.Planes.{set_plane}
use Rattle.complex.proofs.PlanesLaws.{length-set_plane}
use Rattle.cuts.specs.Cut.{amplitude, cell_of, CutReady, ColumnReady}
use Rattle.cuts.proofs.CutLaws.{bits-more, row_inside, column-there, column-next}
use Rattle.svd_load.specs.Loading.{planes_of, planes_to, conjugate_transposed}
use Rattle.svd_load.proofs.LoadingLaws.{planes-none, planes-more, planes-join, planes-all, planes-alike}
pub use Rattle.svd_load.proofs.LoadingLaws.{planes-alike as all-same}
use Rattle.svd.specs.Svd.{work_of}
use Rattle.cut_planes.specs.CutPlanes.{shown, work_cell, column_cell}

-- ---- cells that agree

pub planes-same : (c : ℕ) (f g : ℕ → Complex) (from k : ℕ) (xs : List Float) → ((j : ℕ) → j < k → f (from + j) ≡ g (from + j))
    → planes_to c f from k xs ≡ planes_to c g from k xs
unfolding planes_to
planes-same c f g from zero xs h = refl
planes-same c f g from (suc k) xs h = rw (planes-same c f g from k xs (λ j l. h j (omega arith)), h k (omega arith))

-- ---- one column

pub record Column (n inner count bits at : ℕ) (b : Bool) (s o work : List Float) (j inner-bits : ℕ) : Type 0 where
  pub more : j ≤ count
  pub bits_is : inner-bits ≡ submask_at n inner j
  pub long : length work ≡ length o
  pub cells : work ≡ planes_to (2 ^ n) (column_cell n inner bits at b s) at j o

module _ (n inner count bits at : ℕ) (b : Bool) (s o : List Float) (p : ColumnReady n inner count bits at s o) where
  pub column-begin : Column n inner count bits at b s o o 0 0
  column-begin = record {
    more = omega arith;
    bits_is = sym (submask_at-first n inner);
    long = refl;
    cells = planes-none (2 ^ n) (column_cell n inner bits at b s) at o;
  }

  module _ (cells : ℕ) (all : cells ≡ 2 ^ n) (work : List Float) (j inner-bits : ℕ) (i : Column n inner count bits at b s o work j inner-bits) (h : j < count) where
    pub source_in : 2 * bit_or inner-bits bits + 1 < length s
    source_in = row_inside n inner count bits at s o j p i.bits_is

    pub cell_in : (at + j < cells) × (cells + (at + j) < length work)
    cell_in = (omega (arith, p.last), omega (arith, p.last, p.room, i.long))

    pub column-step : (end : List Float) (z : Complex) (next : ℕ) → z ≡ shown b (cell_at s (bit_or inner-bits bits)) → end ≡ set_plane work cells (at + j) z
        → next ≡ next_submask inner-bits inner → Column n inner count bits at b s o end (j + 1) next
    unfolding column_cell
    column-step end z next ez ee en =
        let e : at + j - at ≡ j = omega arith in
        record {
          more = omega arith;
          bits_is = bits-more n inner j p.small p.row_lt i.bits_is en;
          long = ap length ee ∙ length-set_plane work cells (at + j) z ∙ i.long;
          cells =
              planes-more (2 ^ n) (column_cell n inner bits at b s) at j o i.cells
              (ez ∙ ap (λ (x : ℕ). shown b (cell_at s (bit_or x bits))) (i.bits_is ∙ ap (submask_at n inner) (sym e)))
              (ee ∙ ap (λ (x : ℕ). set_plane work x (at + j) z) all);
        }

  pub column-end : (work : List Float) (j inner-bits : ℕ) → Column n inner count bits at b s o work j inner-bits → count ≤ j
      → work ≡ planes_to (2 ^ n) (column_cell n inner bits at b s) at count o
  column-end work j inner-bits i h =
      let e : j ≡ count = omega (arith, i.more) in
      i.cells ∙ ap (λ (m : ℕ). planes_to (2 ^ n) (column_cell n inner bits at b s) at m o) e

-- ---- the matrix

-- c columns are written; o is the list as it was
pub record Columns (n inner outer count columns : ℕ) (b : Bool) (s o work : List Float) (c at bits : ℕ) : Type 0 where
  pub more : c ≤ columns
  pub bits_is : bits ≡ submask_at n outer c
  pub number : at ≡ c * count
  pub long : length work ≡ length o
  pub cells : work ≡ planes_to (2 ^ n) (work_cell n inner outer count b s) 0 at o

module _ (n inner outer count columns : ℕ) (b : Bool) (s o : List Float) (p : CutReady n inner outer count columns s o) where
  pub columns-begin : Columns n inner outer count columns b s o o 0 0 0
  columns-begin = record {
    more = omega arith;
    bits_is = sym (submask_at-first n outer);
    number = sym (zero-mul count);
    long = refl;
    cells = planes-none (2 ^ n) (work_cell n inner outer count b s) 0 o;
  }

  module _ (work : List Float) (c at bits : ℕ) (i : Columns n inner outer count columns b s o work c at bits) (h : c < columns) where
    pub column-ready : ColumnReady n inner count bits at s work
    column-ready = column-there n inner outer count columns s o p work c at bits h i.bits_is i.number i.long

    -- the column's cells are the matrix's
    cell_same : (j : ℕ) → j < count → column_cell n inner bits at b s (at + j) ≡ work_cell n inner outer count b s (at + j)
    unfolding column_cell work_cell
    cell_same j k =
        let e : at + j - at ≡ j = omega arith in
        let d : (at + j) / count ≡ c = ap (λ (x : ℕ). (x + j) / count) i.number ∙ digits_div c k in
        let m : (at + j) % count ≡ j = ap (λ (x : ℕ). (x + j) % count) i.number ∙ digits_mod c k in
        rw (e, d, m, i.bits_is)

    pub columns-step : (end : List Float) (next : ℕ) → length end ≡ length work
        → end ≡ planes_to (2 ^ n) (column_cell n inner bits at b s) at count work → next ≡ next_submask bits outer
        → Columns n inner outer count columns b s o end (c + 1) (at + count) next
    columns-step end next el ee en = record {
      more = omega arith;
      bits_is = bits-more n outer c p.small p.column-lt i.bits_is en;
      number = column-next n inner outer count columns s o p work c at bits h i.bits_is i.number i.long;
      long = el ∙ i.long;
      cells =
          let f = work_cell n inner outer count b s in
          ee ∙ planes-same (2 ^ n) (column_cell n inner bits at b s) f at count work cell_same
          ∙ ap (planes_to (2 ^ n) f at count) i.cells
          ∙ sym (planes-join (2 ^ n) f 0 at count o ∙ rw zero-add);
    }

  pub columns-end : (work : List Float) (c at bits : ℕ) → Columns n inner outer count columns b s o work c at bits → columns ≤ c
      → length o ≡ 2 * 2 ^ n → work ≡ planes_of (2 ^ n) (work_cell n inner outer count b s)
  columns-end work c at bits i h l =
      let f = work_cell n inner outer count b s in
      let e : c ≡ columns = omega (arith, i.more) in
      i.cells ∙ ap (λ (m : ℕ). planes_to (2 ^ n) f 0 m o) (i.number ∙ ap (λ (x : ℕ). x * count) e ∙ p.product) ∙ planes-all (2 ^ n) f o l

-- ---- the SVD's work matrix of the cut matrix

module _ (n row column rows columns : ℕ) (s o : List Float) (p : CutReady n row column rows columns s o) where
  -- the masks of a wide cut change places
  pub turned : rows < columns → CutReady n column row columns rows s o
  turned h = record {
    small = p.small;
    row_lt = p.column-lt;
    column-lt = p.row_lt;
    product = mul_comm rows columns ∙ p.product;
    some = omega arith;
    state = p.state;
    room = p.room;
  }

  -- the cell i of the conjugate transpose
  transposed-same : rows < columns → (i : ℕ) → i < 2 ^ n
      → work_cell n column row columns true s i ≡ conjugate_transposed (cells_of (2 ^ n) (cell_of n row column rows s)) rows columns i
  unfolding work_cell shown conjugate_transposed
  transposed-same h i l =
      let pos : 0 < columns = omega arith in
      let q : i / columns < rows = (div-lt_iff_lt-mul pos).1 (omega (arith, mul_comm rows columns, p.product)) in
      let r : i % columns < columns = mod-lt i pos in
      let k : i % columns * rows + i / columns < 2 ^ n = omega (arith, digits_lt r q, p.product) in
      let a : cell_at (cells_of (2 ^ n) (cell_of n row column rows s)) (i % columns * rows + i / columns) ≡ amplitude n row column s (i / columns) (i % columns) =
      cell-of (2 ^ n) (i % columns * rows + i / columns) (cell_of n row column rows s) k ∙ ap₂ (amplitude n row column s) (digits_mod (i % columns) q) (digits_div (i % columns) q) in
      ap conjugate (ap (cell_at s) (or_comm (submask_at n column (i % columns)) (submask_at n row (i / columns))) ∙ sym a)

  pub wide_is : rows < columns → planes_of (2 ^ n) (work_cell n column row columns true s) ≡ work_of (cells_of (2 ^ n) (cell_of n row column rows s)) rows columns
  unfolding work_of
  wide_is h =
      let e : rows * columns ≡ 2 ^ n = mul_comm rows columns ∙ p.product in
      planes-alike (2 ^ n) (work_cell n column row columns true s) (conjugate_transposed (cells_of (2 ^ n) (cell_of n row column rows s)) rows columns) (transposed-same h)
      ∙ ap (λ (c : ℕ). planes_of c (conjugate_transposed (cells_of (2 ^ n) (cell_of n row column rows s)) rows columns)) (sym e)
      ∙ sym (cond_yes _ _ (lt-ltb rows columns h))

  pub square-is : columns ≤ rows → planes_of (2 ^ n) (work_cell n row column rows false s) ≡ work_of (cells_of (2 ^ n) (cell_of n row column rows s)) rows columns
  unfolding work_of work_cell shown
  square-is h =
      planes-alike (2 ^ n) (cell_of n row column rows s) (cell_at (cells_of (2 ^ n) (cell_of n row column rows s)))
      (λ i l. sym (cell-of (2 ^ n) i (cell_of n row column rows s) l))
      ∙ ap (λ (c : ℕ). planes_of c (cell_at (cells_of (2 ^ n) (cell_of n row column rows s)))) (sym p.product)
      ∙ sym (cond_no _ _ (le-ltb rows columns h))
