-- The chain by hand: where the calls answer 0, their cells are the call's. Assumes nothing.
use mathlib.Core.Path.{◌≡◌, refl, sym, ap, ap₂, ◌∙◌}
use mathlib.Core.Bool.{Bool, true, false, cond}
use mathlib.Core.List.{List, ◌++◌}
use Prim.Native.Nat.{ℕ, zero, suc, ◌+◌, ◌-◌, ◌*◌, ◌/◌, ◌%◌, ◌^◌, ◌≤◌, ◌<◌}
use native.Mathlib.Nat.{mul_comm, mul-le-mul_right, suc-mul, le_trans, mod-lt, div-lt_iff_lt-mul, div-add-mod'}
use native.Mathlib.Omega.{arith}
use lib.ListN.{length, take, drop, get_or-append}
use lib.Seq.{take_at}
use lib.Dec.{ltb}
use lib.Ieee.{Float, nan}
use borrow.Author.Tests.{ltb-true, ltb-false}
use Rattle.answers.specs.Paper.{Answer, Reply, paper}
use Rattle.answers.proofs.PaperLaws.{and_then-done, done-new, end-new}
use Rattle.complex.specs.declared.Complex.{Complex}
use Rattle.complex.specs.Arithmetic.{complex_of, product}
use Rattle.complex.specs.Zeros.{zero_float}
use Rattle.complex.specs.Cells.{cell_at, cells_of, written}
use Rattle.complex.proofs.CellLaws.{length-cells, cells_same}
use Rattle.svd_columns.specs.Columns.{directions_of, v_columns_of}
use Rattle.site_lines.specs.Sources.{line_cell, site_cell, isometry_cell, scaled_vt_cell}
use Rattle.sites.specs.Calls.{Filled}
use Rattle.site_ranks.specs.Ranks.{rank_of, discards_of}
use Rattle.sweeps.specs.declared.Sweeps.{Sweeps}
use Rattle.sweeps.specs.Sweeping.{no_sweeps}
use Rattle.svd.specs.Svd.{side_of, rows_of, need_u, need_vt, directions, v_columns, u_of, s_of, vt_of, svd_sweeps, svd_tests, svd_end, svd_answer}
use Rattle.svd.proofs.SvdLaws.{accepted, side-wide, side-tall}
use Rattle.chain_step.specs.Step.{columnwise, step_site, carried_by, carried_on}
use Rattle.chain_step.proofs.StepLaws.{front-written, rank-fits, side-some}
use Rattle.chain_walk.specs.Chain.{Links, linked, links_to}
use Rattle.chain_walk.proofs.ChainLaws.{length-s_of}
use Rattle.chains.specs.ByHand.{HandStep, HandLinked, HandWalk}

-- ---- the lengths of the factors

length-directions : (a : List Float) (m n : ℕ) → length (directions a m n) ≡ 2 * (side_of m n * rows_of m n)
unfolding directions directions_of
length-directions a m n = length-cells (side_of m n * rows_of m n) _

length-columns : (a : List Float) (m n : ℕ) → length (v_columns a m n) ≡ 2 * (side_of m n * side_of m n)
unfolding v_columns v_columns_of
length-columns a m n = length-cells (side_of m n * side_of m n) _

length-u_of : (a : List Float) (m n : ℕ) → length (u_of a m n) ≡ 2 * (side_of m n * m)
unfolding u_of
length-u_of a m n = pick (ltb m n) refl
  where
    pick : (b : Bool) → ltb m n ≡ b → length (cond b (v_columns a m n) (directions a m n)) ≡ 2 * (side_of m n * m)
    pick true e = length-columns a m n ∙ ap (λ (x : ℕ). 2 * (side_of m n * x)) (side-wide m n (ltb-true m n e)).0
    pick false e = length-directions a m n ∙ ap (λ (x : ℕ). 2 * (side_of m n * x)) (side-tall m n (ltb-false m n e)).1

length-vt_of : (a : List Float) (m n : ℕ) → length (vt_of a m n) ≡ 2 * (side_of m n * n)
unfolding vt_of
length-vt_of a m n = pick (ltb m n) refl
  where
    pick : (b : Bool) → ltb m n ≡ b → length (cond b (directions a m n) (v_columns a m n)) ≡ 2 * (side_of m n * n)
    pick true e = length-directions a m n ∙ ap (λ (x : ℕ). 2 * (side_of m n * x)) (side-wide m n (ltb-true m n e)).1
    pick false e = length-columns a m n ∙ ap (λ (x : ℕ). 2 * (side_of m n * x)) (side-tall m n (ltb-false m n e)).0

-- ---- a buffer past the need does not matter

cell-front : (l rest : List Float) (i : ℕ) → 2 * i + 1 < length l → cell_at (l ++ rest) i ≡ cell_at l i
cell-front l rest i h =
    ap₂ (λ (a b : Float). record { re = a; im = b }) (get_or-append l rest nan (2 * i) (omega arith)) (get_or-append l rest nan (2 * i + 1) h)

-- a cell of the first side columns
in-columns : (rows side chi k : ℕ) → chi ≤ side → k < rows * chi → 2 * (k % chi * rows + k / chi) + 1 < 2 * (side * rows)
in-columns rows side zero k h i = absurd (omega arith)
in-columns rows side (suc c) k h i =
    let pos : 0 < suc c = omega arith in
    let q : k / suc c < rows = (div-lt_iff_lt-mul pos).1 i in
    let r : suc (k % suc c) ≤ side = le_trans (mod-lt k pos) h in
    let m : suc (k % suc c) * rows ≤ side * rows = mul-le-mul_right rows r in
    let e : suc (k % suc c) * rows ≡ k % suc c * rows + rows = suc-mul (k % suc c) rows in
    omega arith

-- a cell of the first side rows
in_rows : (columns side chi k : ℕ) → chi ≤ side → k < columns * chi → (k / columns < side) × (2 * (k / columns * columns + k % columns) + 1 < 2 * (side * columns))
in_rows zero side chi k h i = absurd (omega arith)
in_rows (suc c) side chi k h i =
    let pos : 0 < suc c = omega arith in
    let j : k < chi * suc c = omega (arith, mul_comm (suc c) chi) in
    let q : k / suc c < chi = (div-lt_iff_lt-mul pos).1 j in
    let m : chi * suc c ≤ side * suc c = mul-le-mul_right (suc c) h in
    let e : k / suc c * suc c + k % suc c ≡ k = div-add-mod' k (suc c) in
    (omega arith, omega (arith, e))

site-same : (a rest : List Float) (rows columns chi : ℕ) → chi ≤ side_of rows columns
    → cells_of (rows * chi) (site_cell chi (isometry_cell (u_of a rows columns ++ rest) rows)) ≡ cells_of (rows * chi) (site_cell chi (isometry_cell (u_of a rows columns) rows))
unfolding site_cell isometry_cell line_cell
site-same a rest rows columns chi h =
    cells_same (rows * chi) _ _ (λ k i.
    cell-front (u_of a rows columns) rest (k % chi * rows + k / chi) (omega (arith, in-columns rows (side_of rows columns) chi k h i, length-u_of a rows columns)))

carry_same : (a s₀ rest : List Float) (rows columns chi : ℕ) → chi ≤ side_of rows columns
    → cells_of (columns * chi) (site_cell columns (scaled_vt_cell (s_of a rows columns ++ s₀) (vt_of a rows columns ++ rest) columns))
    ≡ cells_of (columns * chi) (site_cell columns (scaled_vt_cell (s_of a rows columns) (vt_of a rows columns) columns))
unfolding site_cell scaled_vt_cell line_cell
carry_same a s₀ rest rows columns chi h =
    cells_same (columns * chi) _ _ (λ k i.
    let b = in_rows columns (side_of rows columns) chi k h i in
    ap₂ (λ (x : Float) (z : Complex). product (complex_of x zero_float) z)
    (get_or-append (s_of a rows columns) s₀ nan (k / columns) (omega (arith, b.0, length-s_of a rows columns)))
    (cell-front (vt_of a rows columns) rest (k / columns * columns + k % columns) (omega (arith, b.1, length-vt_of a rows columns))))

-- ---- one step

pub record HandMade (a : List Float) (rows columns : ℕ) (epsilon : Float) (limit chi : ℕ) (drops : Bool) (sweeps : Sweeps) (site on : List Float) : Type 0 where
  pub chi-is : chi ≡ rank_of (s_of a rows columns) epsilon limit
  pub drops-is : drops ≡ discards_of (s_of a rows columns) chi
  pub sweeps-are : sweeps ≡ svd_sweeps a rows columns
  pub site-is : site ≡ step_site a rows columns chi
  pub on-is : on ≡ carried_on a rows columns chi

filled-then : {reply : Reply} {cells : ℕ} {f : ℕ → Complex} {old end : List Float} (answer : Answer)
    → Filled reply cells f old answer end → (paper answer).0 ≡ 0 → end ≡ written cells f old
filled-then {cells = cells} {f = f} {old = old} answer h z = h.out-is ∙ sym (done-new (paper answer).0 (written cells f old) old z)

pub hand-made : (carried : List Float) (bond columns : ℕ) (epsilon : Float) (limit chi : ℕ) (drops : Bool) (sweeps : Sweeps) (site on : List Float)
    → HandStep carried bond columns epsilon limit chi drops sweeps site on
    → HandMade (columnwise carried (2 * bond) columns) (2 * bond) columns epsilon limit chi drops sweeps site on
unfolding svd_answer step_site carried_on carried_by
hand-made carried bond columns epsilon limit chi drops sweeps site on h =
    let a = columnwise carried (2 * bond) columns in
    let rows = 2 * bond in
    let x = (paper h.factors).0 in
    let t : (svd_tests a rows columns (length h.u) (length h.s) (length h.vt) (length h.scratch)).0 ≡ 0 =
    (and_then-done _ (svd_end (u_of a rows columns) (s_of a rows columns) (vt_of a rows columns)) (ap (λ (r : Reply). r.0) (sym h.svd.answer) ∙ h.svd-done)).0 in
    let z = accepted a rows columns (length h.u) (length h.s) (length h.vt) (length h.scratch) t in
    let u-is : h.u' ≡ u_of a rows columns ++ drop (need_u rows columns) h.u = h.svd.u-is ∙ sym (end-new x _ _ h.u h.svd-done) in
    let s-is : h.s' ≡ s_of a rows columns ++ drop (side_of rows columns) h.s = h.svd.s-is ∙ sym (end-new x _ _ h.s h.svd-done) in
    let vt_is : h.vt' ≡ vt_of a rows columns ++ drop (need_vt rows columns) h.vt = h.svd.vt_is ∙ sym (end-new x _ _ h.vt h.svd-done) in
    let values : take (side_of rows columns) h.s' ≡ s_of a rows columns =
    ap (take (side_of rows columns)) s-is ∙ take_at (s_of a rows columns) (drop (side_of rows columns) h.s) (side_of rows columns) (length-s_of a rows columns) in
    let rank : chi ≡ rank_of (s_of a rows columns) epsilon limit = h.rank_is ∙ ap (λ (l : List Float). rank_of l epsilon limit) values in
    let some : 1 ≤ length (s_of a rows columns) = omega (arith, length-s_of a rows columns, side-some rows columns z.rows z.columns) in
    let few : chi ≤ side_of rows columns = omega (arith, rank, rank-fits (s_of a rows columns) epsilon limit some, length-s_of a rows columns) in
    let room : take (2 * (rows * chi)) h.room' ≡ cells_of (rows * chi) (site_cell chi (isometry_cell h.u' rows)) =
    front-written (rows * chi) (site_cell chi (isometry_cell h.u' rows)) h.room (filled-then h.filled h.isometry h.isometry-done) in
    let rest : take (2 * (columns * chi)) h.rest' ≡ cells_of (columns * chi) (site_cell columns (scaled_vt_cell h.s' h.vt' columns)) =
    front-written (columns * chi) (site_cell columns (scaled_vt_cell h.s' h.vt' columns)) h.rest
    (filled-then h.scaled h.carry h.carry-done
    ∙ ap (λ (w : ℕ). written (w * chi) (site_cell w (scaled_vt_cell h.s' h.vt' columns)) h.rest) h.shape) in
    record {
      chi-is = rank;
      drops-is = h.drops-is ∙ ap (λ (l : List Float). discards_of l chi) values;
      sweeps-are = h.sweeps-are ∙ h.svd.sweeps-are ∙ sym (done-new x (svd_sweeps a rows columns) no_sweeps h.svd-done);
      site-is = h.site-is ∙ room ∙ ap (λ (l : List Float). cells_of (rows * chi) (site_cell chi (isometry_cell l rows))) u-is ∙ site-same a _ rows columns chi few;
      on-is =
          h.on-is ∙ rest ∙ ap₂ (λ (l k : List Float). cells_of (columns * chi) (site_cell columns (scaled_vt_cell l k columns))) s-is vt_is
          ∙ carry_same a _ _ rows columns chi few;
    }

-- ---- every step

hand-linked : (l : Links) (columns : ℕ) (epsilon : Float) (limit : ℕ) (w : Links) → HandLinked l columns epsilon limit w
    → w ≡ linked l columns epsilon limit
hand-linked l columns epsilon limit w h =
    let m = hand-made l.carried l.bond columns epsilon limit h.chi h.drops h.sweeps h.site h.on h.step in
    h.is ∙ rw (m.site-is, m.on-is, m.sweeps-are, m.drops-is, m.chi-is)

pub hand-walked : (first : List Float) (n : ℕ) (epsilon : Float) (limit j : ℕ) (w : Links) → HandWalk first n epsilon limit j w → w ≡ links_to first n epsilon limit j
unfolding HandWalk links_to
hand-walked first n epsilon limit zero w h = h
hand-walked first n epsilon limit (suc j) w h =
    let e = hand-walked first n epsilon limit j h.0 h.1 in
    hand-linked h.0 (2 ^ (n - 1 - j)) epsilon limit w h.2 ∙ ap (λ (l : Links). linked l (2 ^ (n - 1 - j)) epsilon limit) e
