-- Columns of cells written one after the other. Assumes nothing.
use mathlib.Core.Path.{◌≡◌, sym, ap₂, ◌∙◌}
use mathlib.Core.List.{List, [], ◌++◌, append_assoc, append-nil}
use Prim.Native.Nat.{ℕ, zero, suc, ◌+◌, ◌-◌, ◌*◌, ◌/◌, ◌%◌, ◌≤◌, ◌<◌}
use native.Mathlib.Nat.{add-zero, add-suc, mul-add-div_right, mul-add-mod_self_right, div-eq_of_lt, mod-eq_of_lt}
use native.Mathlib.Omega.{arith}
use lib.ListN.{length, set, take, drop, length-drop, drop_of_length-le}
use lib.Seq.{take_at, take_all, drop_at, drop-drop}
use borrow.Rule.Slice.PartMut.{mid_of, put_mid}
use lib.Ieee.{Float}
use Rattle.complex.specs.declared.Complex.{Complex}
use Rattle.complex.specs.Cells.{cells_of, set_cell, written}
use Rattle.complex.proofs.CellLaws.{length-cells, cells_same, written-more}
use Rattle.tables.specs.Tables.{filled}
use Rattle.tables.proofs.TablesLaws.{filled_more}
use Rattle.svd_columns.specs.Columns.{in_columns}

-- the cell r of the column j
at-column : (rows : ℕ) (f : ℕ → ℕ → Complex) (j r : ℕ) → r < rows → in_columns rows f (j * rows + r) ≡ f j r
unfolding in_columns
at-column rows f j r h =
    let pos : 0 < rows = omega arith in
    let d : (j * rows + r) / rows ≡ j = mul-add-div_right pos j r ∙ rw (div-eq_of_lt h) (add-zero j) in
    let e : (j * rows + r) % rows ≡ r = mul-add-mod_self_right j rows r ∙ mod-eq_of_lt h in
    rw (d, e)

cells-join : (a b : ℕ) (f : ℕ → Complex) → cells_of (a + b) f ≡ cells_of a f ++ cells_of b (λ r. f (a + r))
unfolding cells_of
cells-join a zero f = rw (add-zero, append-nil)
cells-join a (suc b) f = rw (add-suc, cells-join a b f) (simp append_assoc)

-- j columns are written: none yet, one more, all
pub columns-none : (rows : ℕ) (f : ℕ → ℕ → Complex) (old : List Float) → old ≡ written (0 * rows) (in_columns rows f) old
unfolding written cells_of
columns-none rows f old =
    let e : 0 * rows ≡ 0 = omega arith in
    rw e

pub columns-more : (rows : ℕ) (g : ℕ → ℕ → ℕ → Complex) (p : ℕ → ℕ) (j : ℕ) (old : List Float) {ys zs : List Float} {o : ℕ}
    → 2 * (j * rows) ≤ length ys → ys ≡ written (j * rows) (in_columns rows (λ k. g k (p k))) old → o ≡ p j
    → zs ≡ written rows (g j o) (mid_of (2 * (j * rows)) (length ys - 2 * (j * rows)) ys)
    → put_mid (2 * (j * rows)) (length ys - 2 * (j * rows)) ys zs ≡ written ((j + 1) * rows) (in_columns rows (λ k. g k (p k))) old
unfolding written
columns-more rows g p j old {ys} {zs} {o} b e i h =
    let f = in_columns rows (λ k. g k (p k)) in
    let a = 2 * (j * rows) in
    let front = cells_of (j * rows) f in
    let rest = drop a old in
    let l : length front ≡ a = length-cells (j * rows) f in
    let t : take a ys ≡ front = rw e (take_at front rest a l) in
    let d : drop a ys ≡ rest = rw e (drop_at front rest a l) in
    let w : length (drop a ys) ≤ length ys - a = omega (arith, length-drop a ys) in
    let m : take (length ys - a) (drop a ys) ≡ drop a ys = take_all (length ys - a) (drop a ys) w in
    let z : drop (length ys - a) (drop a ys) ≡ [] = drop_of_length-le (drop a ys) w in
    let s : cells_of rows (g j o) ≡ cells_of rows (λ r. f (j * rows + r)) =
    rw i (cells_same rows (g j (p j)) (λ r. f (j * rows + r)) (λ r k. sym (at-column rows (λ k. g k (p k)) j r k))) in
    let n : (j + 1) * rows ≡ j * rows + rows = omega arith in
    let q : a + 2 * rows ≡ 2 * (j * rows + rows) = omega arith in
    let y : zs ≡ cells_of rows (λ r. f (j * rows + r)) ++ drop (2 * (j * rows + rows)) old = h ∙ rw (m, d, s, drop-drop (2 * rows) a old, q) in
    rw (t, z, append-nil, y, n, cells-join (j * rows) rows f) (simp append_assoc)

pub columns-all : (c : ℕ) (f : ℕ → Complex) (old : List Float) → length old ≡ 2 * c → written c f old ≡ cells_of c f
unfolding written
columns-all c f old h =
    let e : length old ≤ 2 * c = omega arith in
    rw (drop_of_length-le old e, append-nil)

-- a turn of a loop that fills a column, and of one that fills numbers
pub written_step : (f : ℕ → Complex) (old : List Float) (k : ℕ) {ys zs : List Float} {z : Complex}
    → 2 * k + 1 < length old → ys ≡ written k f old → z ≡ f k → zs ≡ set_cell ys k z → zs ≡ written (k + 1) f old
written_step f old k {ys} {zs} {z} h e g i = i ∙ ap₂ (λ (l : List Float) (x : Complex). set_cell l k x) e g ∙ written-more k f old h

pub filled-step : (f : ℕ → Float) (old : List Float) (k : ℕ) {ys : List Float} {x : Float}
    → k < length old → ys ≡ filled k f old → x ≡ f k → set ys k x ≡ filled (k + 1) f old
filled-step f old k {ys} {x} h e g = ap₂ (λ (l : List Float) (y : Float). set l k y) e g ∙ filled_more k f old h
