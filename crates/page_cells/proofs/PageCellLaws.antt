-- Laws of a matrix's lines: how long they are, and a step of the loop. Assumes nothing.
use mathlib.Core.Path.{◌≡◌, ap, ap₂, ◌∙◌}
use mathlib.Core.Bool.{Bool, true, false, cond}
use mathlib.Core.List.{List, ◌++◌}
use Prim.Native.Nat.{ℕ, zero, suc, ◌+◌, ◌*◌, ◌/◌, ◌%◌, ◌≤◌, ◌<◌}
use native.Mathlib.Nat.{mod-lt, div-lt_iff_lt-mul, mul-le-mul}
use native.Mathlib.Numerals.{add-one}
use native.Mathlib.Omega.{arith}
use lib.Dec.{ltb}
use borrow.Author.Tests.{lt-ltb}
use lib.Ieee.{Float, binary64, to_bits}
use lib.ListN.{length, length-append}
use Rattle.complex.specs.declared.Complex.{Complex}
use Rattle.complex.specs.Cells.{cell_at}
use Rattle.texts.specs.Text.{Puts, places, decimal, item_text}
use Rattle.texts.proofs.TextLaws.{puts_none, puts_then, puts-as, length_digits}
use Rattle.lines.specs.Lines.{blank}
use Rattle.page_lines.specs.PageLines.{hex_item, bits_line}
use Rattle.page_lines.proofs.PageLineLaws.{length-hex-item, length-bits}
use Rattle.page_cells.specs.PageCells.{cell_line, cell_lines, Lined}

-- ---- two digits

one_place : (n : ℕ) → n < 10 → places 18 n ≡ 1
unfolding places
one_place n h = ap (λ (t : Bool). cond t 1 (suc (places 17 (n / 10)))) (lt-ltb n 10 h)

two-places : (n : ℕ) → n < 100 → places 19 n ≤ 2
unfolding places
two-places n h = go (ltb n 10)
  where
    go : (t : Bool) → cond t 1 (suc (places 18 (n / 10))) ≤ 2
    go true = omega arith
    go false = omega (arith, one_place (n / 10) (omega arith))

short-item : (w : List ℕ) (n : ℕ) → n < 100 → length (item_text w n) ≤ length w + 2
unfolding item_text decimal
short-item w n h = omega (arith, length-append w (decimal n), length_digits (places 19 n) n, two-places n h)

length-cell : (w : List ℕ) (r c a b : ℕ) → r < 100 → c < 100 → length (cell_line w r c a b) ≤ length w + 40
unfolding cell_line
length-cell w r c a b h g =
    omega (
      arith,
      length-append (item_text w r ++ item_text blank c ++ hex_item blank a) (bits_line blank b),
      length-append (item_text w r ++ item_text blank c) (hex_item blank a),
      length-append (item_text w r) (item_text blank c),
      short-item w r h,
      short-item blank c g,
      length-hex-item blank a,
      length-bits blank b,
    )

pub square-small : (dim : ℕ) → dim ≤ 32 → dim * dim ≤ 1024
square-small dim h = mul-le-mul {n₁ = dim} {m₁ = dim} {n₂ = 32} {m₂ = 32} h h

-- a row and a column of a matrix of at most 32 rows
row_lt : (dim k : ℕ) → 1 ≤ dim → dim ≤ 32 → k < dim * dim → k / dim < 100
row_lt dim k s h g = let l : k / dim < dim = (div-lt_iff_lt-mul {k = dim} {x = k} {y = dim} (omega arith)).1 g in omega arith

column-lt : (dim k : ℕ) → 1 ≤ dim → dim ≤ 32 → k % dim < 100
column-lt dim k s h = let l : k % dim < dim = mod-lt k {m = dim} (omega arith) in omega arith

-- ---- the lines

module _ (w : List ℕ) (dim : ℕ) (s : List Float) (short : length w ≤ 8) (some : 1 ≤ dim) (small : dim ≤ 32) where
  pub length-cells : (m : ℕ) → m ≤ dim * dim → length (cell_lines w dim m s) ≤ 48 * m
  unfolding cell_lines
  length-cells zero h = omega arith
  length-cells (suc m) h =
      let line = cell_line w (m / dim) (m % dim) (to_bits binary64 (cell_at s m).re) (to_bits binary64 (cell_at s m).im) in
      omega (
        arith,
        length-append (cell_lines w dim m s) line,
        length-cells m (omega arith),
        length-cell w (m / dim) (m % dim) (to_bits binary64 (cell_at s m).re) (to_bits binary64 (cell_at s m).im) (row_lt dim m some small (omega arith)) (column-lt dim m some small),
      )

pub cells-none : (w : List ℕ) (dim : ℕ) (s : List Float) (at : ℕ) (d : List ℕ) → Puts at (cell_lines w dim 0 s) d at d
unfolding cell_lines
cells-none w dim s at d = puts_none at d

module _ (w : List ℕ) (dim : ℕ) (s : List Float) (at : ℕ) (old : List ℕ) (is : Lined w dim s at (length old)) where
  pub cells-step : (m r t a b : ℕ) (z : Complex) (mid new : List ℕ) → m < dim * dim → z ≡ cell_at s m → a ≡ to_bits binary64 z.re → b ≡ to_bits binary64 z.im
      → Puts at (cell_lines w dim m s) old r mid → Puts r (cell_line w (m / dim) (m % dim) a b) mid t new → Puts at (cell_lines w dim (m + 1) s) old t new
  unfolding cell_lines
  cells-step m r t a b z mid new h e f g p q =
      let l = length-cells w dim s is.short is.some is.small m (omega arith) in
      rw add-one
      (puts_then at r t (cell_lines w dim m s) _ old mid new (omega (arith, is.fits)) p
      (puts-as r t _ _ mid new
      (ap₂ (cell_line w (m / dim) (m % dim)) (f ∙ ap (λ (y : Complex). to_bits binary64 y.re) e) (g ∙ ap (λ (y : Complex). to_bits binary64 y.im) e)) q))
