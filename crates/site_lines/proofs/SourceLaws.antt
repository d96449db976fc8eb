-- Laws of the sources and of the lines of a site. Assumes nothing.
use mathlib.Core.Path.{◌≡◌, sym, ap, ap₂, ◌∙◌}
use mathlib.Core.Bool.{Bool, true, false}
use mathlib.Core.List.{List}
use Prim.Native.Nat.{ℕ, zero, suc, ◌+◌, ◌-◌, ◌*◌, ◌/◌, ◌%◌, ◌≤◌, ◌<◌}
use native.Mathlib.Nat.{suc-mul, mul_comm, mul-add-div_right, mul-add-mod_self_right, div-eq_of_lt, mod-eq_of_lt}
use native.Mathlib.Numerals.{add-one}
use native.Mathlib.Omega.{arith}
use lib.Ieee.{Float}
use lib.ListN.{length}
use Rattle.answers.specs.Paper.{Reply, done, and_then}
use Rattle.numbers.specs.Numbers.{allowed}
use Rattle.complex.specs.declared.Complex.{Complex}
use Rattle.complex.specs.Cells.{cell_at, set_cell, written}
use Rattle.complex.proofs.CellLaws.{written_none, written-more}
use Rattle.whole_numbers.proofs.WholeLaws.{column_fits}
use Rattle.site_lines.specs.Sources.{cell_allowed, cells_from, lines_from, put_line, site_cell}

-- ---- 7

pub both-allowed : (z : Complex) {a b : Bool} → a ≡ allowed z.re → a ≡ true → b ≡ allowed z.im → b ≡ cell_allowed z
unfolding cell_allowed
both-allowed z e f g = rw (← e, f) g

pub not-allowed : (z : Complex) {a : Bool} → a ≡ allowed z.re → a ≡ false → false ≡ cell_allowed z
unfolding cell_allowed
not-allowed z e f = rw (← e, f)

-- t of n cells are passed
module _ (s : List Float) (from n t : ℕ) {e : Reply} (i : cells_from s (from + t) (n - t) ≡ e) (h : t < n) {z : Complex} {b : Bool}
    (r : z ≡ cell_at s (from + t)) (a : b ≡ cell_allowed z) where
  next : cells_from s (from + t) (suc (n - (t + 1))) ≡ e
  next =
      let m : suc (n - (t + 1)) ≡ n - t = omega arith in
      ap (cells_from s (from + t)) m ∙ i

  pub cell-bad : b ≡ false → (7, from + t) ≡ e
  unfolding cells_from
  cell-bad f =
      let g : cell_allowed (cell_at s (from + t)) ≡ false = sym (ap cell_allowed r) ∙ sym a ∙ f in
      rw g at next

  pub cell-good : b ≡ true → cells_from s (from + (t + 1)) (n - (t + 1)) ≡ e
  unfolding cells_from
  cell-good f =
      let g : cell_allowed (cell_at s (from + t)) ≡ true = sym (ap cell_allowed r) ∙ sym a ∙ f in
      let k : from + (t + 1) ≡ suc (from + t) = omega arith in
      ap (λ (x : ℕ). cells_from s x (n - (t + 1))) k ∙ (rw g at next)

pub cells-end : (s : List Float) (from n t : ℕ) {e : Reply} → cells_from s (from + t) (n - t) ≡ e → n ≤ t → done ≡ e
unfolding cells_from
cells-end s from n t i h =
    let m : 0 ≡ n - t = omega arith in
    ap (cells_from s (from + t)) m ∙ i

pub cells-begin : (s : List Float) (from n : ℕ) → cells_from s (from + 0) (n - 0) ≡ cells_from s from n
cells-begin s from n = ap₂ (cells_from s) (omega arith) (omega arith)

-- i of n lines are passed
module _ (s : List Float) (stride width n i : ℕ) {e : Reply} (j : lines_from s stride width i (n - i) ≡ e) where
  pub lines_next : i < n → and_then (cells_from s (i * stride) width) (lines_from s stride width (i + 1) (n - (i + 1))) ≡ e
  unfolding lines_from
  lines_next h =
      let m : suc (n - (i + 1)) ≡ n - i = omega arith in
      ap (λ (x : ℕ). and_then (cells_from s (i * stride) width) (lines_from s stride width x (n - (i + 1)))) (add-one i) ∙ ap (lines_from s stride width i) m ∙ j

  pub lines_end : n ≤ i → done ≡ e
  unfolding lines_from
  lines_end h =
      let m : 0 ≡ n - i = omega arith in
      ap (lines_from s stride width i) m ∙ j

pub lines-begin : (s : List Float) (stride width n : ℕ) → lines_from s stride width 0 (n - 0) ≡ lines_from s stride width 0 n
lines-begin s stride width n = ap (lines_from s stride width 0) (omega arith)

-- ---- the site, line after line

-- cell t of line i
cell-of : (w : ℕ) (f : ℕ → ℕ → Complex) (i t : ℕ) → t < w → site_cell w f (i * w + t) ≡ f i t
unfolding site_cell
cell-of w f i t h =
    let p : 0 < w = omega arith in
    let d : (i * w + t) / w ≡ i = mul-add-div_right p i t ∙ omega (arith, div-eq_of_lt h) in
    let m : (i * w + t) % w ≡ t = mul-add-mod_self_right i w t ∙ mod-eq_of_lt h in
    ap₂ f d m

put_written : (w : ℕ) (f : ℕ → ℕ → Complex) (i n : ℕ) (old : List Float) → n ≤ w → 2 * (i * w + n) ≤ length old
    → put_line (f i) (i * w) (written (i * w) (site_cell w f) old) n ≡ written (i * w + n) (site_cell w f) old
unfolding put_line
put_written w f i zero old h l =
    let e : i * w ≡ i * w + 0 = omega arith in
    ap (λ (x : ℕ). written x (site_cell w f) old) e
put_written w f i (suc n) old h l =
    let e : i * w + n + 1 ≡ i * w + suc n = omega arith in
    ap₂ (λ (x : List Float) (z : Complex). set_cell x (i * w + n) z) (put_written w f i n old (omega arith) (omega arith)) (sym (cell-of w f i n (omega arith)))
    ∙ written-more (i * w + n) (site_cell w f) old (omega arith)
    ∙ ap (λ (x : ℕ). written x (site_cell w f) old) e

pub site-none : (w : ℕ) (f : ℕ → ℕ → Complex) (old : List Float) → old ≡ written (0 * w) (site_cell w f) old
site-none w f old =
    let e : 0 ≡ 0 * w = omega arith in
    written_none (site_cell w f) old ∙ ap (λ (x : ℕ). written x (site_cell w f) old) e

-- line i of n is put
pub site-more : (n w : ℕ) (f : ℕ → ℕ → Complex) (i : ℕ) (old : List Float) {p q : List Float} → i < n → 2 * (n * w) ≤ length old
    → p ≡ written (i * w) (site_cell w f) old → q ≡ put_line (f i) (i * w) p w → q ≡ written ((i + 1) * w) (site_cell w f) old
site-more n w f i old h l b c =
    let r : i * w + w ≡ (i + 1) * w = rw add-one (sym (suc-mul i w)) in
    c
    ∙ ap (λ (x : List Float). put_line (f i) (i * w) x w) b
    ∙ put_written w f i w old (omega arith) (omega (arith, column_fits i n w h))
    ∙ ap (λ (x : ℕ). written x (site_cell w f) old) r

pub site-end : (n w : ℕ) (f : ℕ → ℕ → Complex) (old : List Float) (i : ℕ) {p : List Float} → p ≡ written (i * w) (site_cell w f) old → i ≤ n → n ≤ i
    → p ≡ written (n * w) (site_cell w f) old
site-end n w f old i e h l =
    let k : i ≡ n = omega arith in
    e ∙ ap (λ (x : ℕ). written (x * w) (site_cell w f) old) k

-- the same, counted by the width first
pub site-end-by-rows : (n w : ℕ) (f : ℕ → ℕ → Complex) (old : List Float) (i : ℕ) {p : List Float} → p ≡ written (i * w) (site_cell w f) old → i ≤ n → n ≤ i
    → p ≡ written (w * n) (site_cell w f) old
site-end-by-rows n w f old i e h l = site-end n w f old i e h l ∙ ap (λ (x : ℕ). written x (site_cell w f) old) (mul_comm n w)
