-- Laws of the cut matrix: a step of each of the two loops that gather it, the contract at each way out, and that only one outcome meets
-- it. Assumes nothing.
use mathlib.Core.Bool.{not}
use mathlib.Core.Path.{◌≡◌, refl, sym, ap, ap₂, ◌∙◌}
use mathlib.Core.List.{List}
use Prim.Native.Nat.{ℕ, zero, suc, ◌+◌, ◌-◌, ◌*◌, ◌^◌, ◌≤◌, ◌<◌}
use native.Mathlib.Nat.{add-mul, zero-mul, one-mul, min-le_right}
use native.Mathlib.Numerals.{add-one}
use native.Mathlib.Omega.{arith}
use borrow.Author.Tests.{eqb-true, ltb-false, not-false}
use lib.Arith.{digits_div, digits_mod}
use lib.Bits.{bit_or, or_lt}
use lib.Dec.{eqb, ltb}
use lib.Ieee.{Float}
use lib.ListN.{length, length-set}
use lib.Pow.{pow_pos}
use Rattle.answers.specs.Paper.{Answer, Reply, done, refuse, after, if_done}
use Rattle.answers.proofs.PaperLaws.{refuse-done}
use Rattle.whole_numbers.proofs.WholeLaws.{column_fits}
use Rattle.submasks.specs.Submasks.{submask_at, next_submask}
use Rattle.submasks.proofs.SubmaskLaws.{next-submask_at, submask_at-first, submask_at-lt}
use Rattle.qubits.proofs.NamedLaws.{sizes-product}
use Rattle.complex.specs.declared.Complex.{Complex}
use Rattle.complex.specs.Cells.{cell_at, set_cell, written}
use Rattle.complex.proofs.CellLaws.{written_none, written-more}
use Rattle.cut_sides.specs.declared.Sides.{Sides}
use Rattle.cut_sides.specs.Sides.{cut_refusal, Parted, side, row_mask, column_mask, sides_of, Sided}
use Rattle.cut_sides.proofs.SideLaws.{two-sides}
use Rattle.cuts.specs.Cut.{cell_of, cut_lengths, cut_rest, cut_answer, set_cells, CutMatrix, CutOver, CutReady, ColumnReady}

-- ---- what both ways to gather a matrix share: as cells here, as planes in `cut_planes`

-- the submask after the j-th
pub bits-more : (n mask j : ℕ) {bits next : ℕ} → n ≤ 12 → mask < 2 ^ n → bits ≡ submask_at n mask j → next ≡ next_submask bits mask → next ≡ submask_at n mask (j + 1)
bits-more n mask j h l e f =
    f ∙ ap (λ (x : ℕ). next_submask x mask) e ∙ next-submask_at n mask j (omega arith) l ∙ ap (submask_at n mask) (sym (add-one j))

-- the cell of the state that the row j of a column reads
pub row_inside : (n row rows bits at : ℕ) (s o : List Float) (j : ℕ) {row-bits : ℕ} → ColumnReady n row rows bits at s o → row-bits ≡ submask_at n row j
    → 2 * bit_or row-bits bits + 1 < length s
row_inside n row rows bits at s o j {row-bits} p e =
    let l : bit_or row-bits bits < 2 ^ n = rw e (or_lt n (submask_at n row j) bits (submask_at-lt n row j) p.bits-lt) in
    omega (arith, p.state)

module _ (n row column rows columns : ℕ) (s o : List Float) (p : CutReady n row column rows columns s o) (out : List Float) (c at bits : ℕ) (h : c < columns)
    (eb : bits ≡ submask_at n column c) (ea : at ≡ c * rows) (el : length out ≡ length o) where
  -- the column c, and where the next one begins
  pub column-there : ColumnReady n row rows bits at s out
  column-there = record {
    small = p.small;
    row_lt = p.row_lt;
    bits-lt = rw eb (submask_at-lt n column c);
    state = p.state;
    last = omega (arith, ea, column_fits c columns rows h, p.product);
    room = omega (arith, p.room, el);
  }

  pub column-next : at + rows ≡ (c + 1) * rows
  column-next = omega (arith, ea, add-mul c 1 rows, one-mul rows)

-- ---- one column

pub set-none : (at : ℕ) (f : ℕ → Complex) (xs : List Float) → xs ≡ set_cells at f 0 xs
unfolding set_cells
set-none at f xs = refl

pub set_more : (at : ℕ) (f : ℕ → Complex) (m : ℕ) (xs : List Float) → set_cell (set_cells at f m xs) (at + m) (f m) ≡ set_cells at f (m + 1) xs
unfolding set_cells
set_more at f m xs = ap (λ (k : ℕ). set_cells at f k xs) (sym (add-one m))

-- a run of cells after a matrix's first cells
pub set-written : (at : ℕ) (f g : ℕ → Complex) (m : ℕ) (old : List Float) → ((j : ℕ) → j < m → f j ≡ g (at + j)) → 2 * (at + m) ≤ length old
    → set_cells at f m (written at g old) ≡ written (at + m) g old
unfolding set_cells
set-written at f g zero old h l = let e : at + 0 ≡ at = omega arith in rw e
set-written at f g (suc m) old h l =
    let e : at + suc m ≡ at + m + 1 = omega arith in
    rw (set-written at f g m old (λ j k. h j (omega arith)) (omega arith), h m (omega arith), e) (written-more (at + m) g old (omega arith))

pub record Column (n row rows bits at : ℕ) (s o out : List Float) (j row-bits : ℕ) : Type 0 where
  pub more : j ≤ rows
  pub row_is : row-bits ≡ submask_at n row j
  pub long : length out ≡ length o
  pub cells : out ≡ set_cells at (λ (i : ℕ). cell_at s (bit_or (submask_at n row i) bits)) j o

module _ (n row rows bits at : ℕ) (s o : List Float) (p : ColumnReady n row rows bits at s o) where
  pub column-begin : Column n row rows bits at s o o 0 0
  column-begin = record {
    more = omega arith;
    row_is = sym (submask_at-first n row);
    long = refl;
    cells = set-none at (λ (i : ℕ). cell_at s (bit_or (submask_at n row i) bits)) o;
  }

  module _ (out : List Float) (j row-bits : ℕ) (i : Column n row rows bits at s o out j row-bits) (h : j < rows) where
    pub source_in : 2 * bit_or row-bits bits + 1 < length s
    source_in = row_inside n row rows bits at s o j p i.row_is

    pub column-step : (end : List Float) (z : Complex) (next : ℕ) → z ≡ cell_at s (bit_or row-bits bits) → end ≡ set_cell out (at + j) z
        → next ≡ next_submask row-bits row → Column n row rows bits at s o end (j + 1) next
    column-step end z next ez ee en = record {
      more = omega arith;
      row_is = bits-more n row j p.small p.row_lt i.row_is en;
      long = rw ee (simp length-set i.long);
      cells =
          ee
          ∙ ap₂ (λ (a : List Float) (y : Complex). set_cell a (at + j) y) i.cells (ez ∙ ap (λ (x : ℕ). cell_at s (bit_or x bits)) i.row_is)
          ∙ set_more at (λ (x : ℕ). cell_at s (bit_or (submask_at n row x) bits)) j o;
    }

-- ---- the matrix

-- c columns are written; o is the list as it was
pub record Columns (n row column rows columns : ℕ) (s o out : List Float) (c at bits : ℕ) : Type 0 where
  pub more : c ≤ columns
  pub bits_is : bits ≡ submask_at n column c
  pub number : at ≡ c * rows
  pub long : length out ≡ length o
  pub cells : out ≡ written at (cell_of n row column rows s) o

module _ (n row column rows columns : ℕ) (s o : List Float) (p : CutReady n row column rows columns s o) where
  pub columns-begin : Columns n row column rows columns s o o 0 0 0
  columns-begin = record {
    more = omega arith;
    bits_is = sym (submask_at-first n column);
    number = sym (zero-mul rows);
    long = refl;
    cells = written_none (cell_of n row column rows s) o;
  }

  module _ (out : List Float) (c at bits : ℕ) (i : Columns n row column rows columns s o out c at bits) (h : c < columns) where
    pub column-ready : ColumnReady n row rows bits at s out
    column-ready = column-there n row column rows columns s o p out c at bits h i.bits_is i.number i.long

    pub columns-step : (end : List Float) (next : ℕ) → length end ≡ length out
        → end ≡ set_cells at (λ (j : ℕ). cell_at s (bit_or (submask_at n row j) bits)) rows out → next ≡ next_submask bits column
        → Columns n row column rows columns s o end (c + 1) (at + rows) next
    columns-step end next el ee en = record {
      more = omega arith;
      bits_is = bits-more n column c p.small p.column-lt i.bits_is en;
      number = column-next n row column rows columns s o p out c at bits h i.bits_is i.number i.long;
      long = el ∙ i.long;
      cells =
          ee ∙ ap (set_cells at (λ (j : ℕ). cell_at s (bit_or (submask_at n row j) bits)) rows) i.cells
          ∙ set-written at (λ (j : ℕ). cell_at s (bit_or (submask_at n row j) bits)) (cell_of n row column rows s) rows o
          (λ j k.
          sym (ap (λ (x : ℕ). cell_of n row column rows s (x + j)) i.number ∙ rw (digits_mod c k, digits_div c k, i.bits_is)))
          (omega (arith, column-ready.last, p.room));
    }

-- ---- the sides of an accepted cut

pub ready : (s : List Float) (n : ℕ) (l : List ℕ) (o : List Float) → Parted l n → length s ≡ 2 * 2 ^ n → 2 * 2 ^ n ≤ length o
    → CutReady n (row_mask l n) (column_mask l n) (2 ^ side l n) (2 ^ (n - side l n)) s o
ready s n l o p e h =
    let t = two-sides l n p in
    let k : side l n ≤ n - length l = min-le_right (length l) (n - length l) in
    record {
      small = p.listed.small;
      row_lt = t.row_lt;
      column-lt = t.column-lt;
      product = sizes-product n (side l n) (omega arith);
      some = pow_pos (side l n);
      state = e;
      room = h;
    }

-- the same of sides as an inner function has them
pub ready-sides : (s : List Float) (n : ℕ) (z : Sides) (o : List Float) → Sided n z → length s ≡ 2 * 2 ^ n → 2 * 2 ^ n ≤ length o
    → CutReady n z.row z.column z.rows z.columns s o
ready-sides s n z o q e h = rw q.are (ready s n q.list o q.parted e h)

-- ---- the call over sides

-- lengths that 6 does not refuse
pub lengths-done : (n s o : ℕ) → (cut_lengths n s o).0 ≡ 0 → (s ≡ 2 * 2 ^ n) × (2 * 2 ^ n ≤ o)
lengths-done n s o e =
    let a = refuse-done (not (eqb s (2 * 2 ^ n))) 5 0 (refuse (ltb o (2 * 2 ^ n)) (6, 2) done) e in (
      eqb-true s (2 * 2 ^ n) (not-false (eqb s (2 * 2 ^ n)) a.0),
      ltb-false o (2 * 2 ^ n) (refuse-done (ltb o (2 * 2 ^ n)) 5 2 done a.1).0,
    )

-- ---- the call

module _ (s : List Float) (n : ℕ) (l : List ℕ) (cap : ℕ) (o : List Float) (r : Answer) where
  -- THE CALL IS ITS WORK over the list's sides, where 1 to 5 do not refuse
  pub cut-is-over : (z : Sides) (end : List Float) → (cut_refusal l n cap).0 ≡ 0 → z ≡ sides_of l n → CutOver s n z o r end → CutMatrix s n l cap o r end
  cut-is-over z end h q c =
      let e : cut_answer s n l cap (length o) ≡ cut_rest s n (length o) = ap (λ (k : ℕ). after k (cut_refusal l n cap) (cut_rest s n (length o))) h in
      let w = ap (λ (y : Sides). written (2 ^ n) (cell_of n y.row y.column y.rows s) o) q in
      record {
        answer = c.answer ∙ sym e;
        cells = c.cells ∙ ap₂ (λ (x : Reply) (v : List Float). if_done x.0 v o) (sym e) w;
      }
