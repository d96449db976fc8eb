-- The four fills: their answers, and what the site's slice holds at the end. Assumes nothing.
use Rattle.std.specs.Prelude.{◌≡◌, List, ℕ, ◌*◌, ◌≤◌, ltb, Float, length, take}
use Rattle.answers.specs.Paper.{Answer, Reply, paper, done, refuse, and_then, if_done}
use Rattle.values.specs.Lists.{values_allowed}
use Rattle.complex.specs.declared.Complex.{Complex}
use Rattle.complex.specs.Cells.{written}
use Rattle.site_lines.specs.Sources.{lines_from}

-- ---- 1: a size above 4,096, a stride below the `width` cells that are copied of each of chi lines, a site above 4,096 cells

unfoldable pub line_sizes : ℕ → ℕ → ℕ → Reply
line_sizes stride width chi =
    refuse (ltb 4096 stride) (1, 0) (refuse (ltb 4096 chi) (1, 0) (refuse (ltb stride width) (1, 0) (refuse (ltb 4096 (width * chi)) (1, 0) done)))

-- a site (bond_left, 2, chi) out of chi columns
unfoldable pub column_sizes : ℕ → ℕ → ℕ → Reply
unfolding line_sizes
column_sizes stride left chi = refuse (ltb 4096 left) (1, 0) (line_sizes stride (2 * left) chi)

-- a site (chi, physical_dim, bond_right) out of chi rows
unfoldable pub row_sizes : ℕ → ℕ → ℕ → ℕ → Reply
unfolding line_sizes
row_sizes row_length chi physical right =
    refuse (ltb 4096 physical) (1, 0) (refuse (ltb 4096 right) (1, 0) (line_sizes row_length (physical * right) chi))

-- ---- 6 and 7, slices in the order of the call: the source has chi whole lines, the values are chi or more, the site fits in `room`

-- source 0, out 1
unfoldable pub plain_reply : List Float → ℕ → ℕ → ℕ → ℕ → Reply
plain_reply source stride width chi room =
    refuse (ltb (length source) (2 * (chi * stride))) (6, 0) (refuse (ltb room (2 * (width * chi))) (6, 1) (lines_from source stride width 0 chi))

-- source 0, values 1, out 2: the source's cells are looked at first
unfoldable pub scaled_u_reply : List Float → List Float → ℕ → ℕ → ℕ → ℕ → Reply
scaled_u_reply source values stride width chi room =
    refuse (ltb (length source) (2 * (chi * stride))) (6, 0)
    (refuse (ltb (length values) chi) (6, 1)
    (refuse (ltb room (2 * (width * chi))) (6, 2) (and_then (lines_from source stride width 0 chi) (values_allowed 0 (take chi values)))))

-- values 0, source 1, out 2: the values are looked at first
unfoldable pub scaled_vt_reply : List Float → List Float → ℕ → ℕ → ℕ → ℕ → Reply
scaled_vt_reply values source stride width chi room =
    refuse (ltb (length values) chi) (6, 0)
    (refuse (ltb (length source) (2 * (chi * stride))) (6, 1)
    (refuse (ltb room (2 * (width * chi))) (6, 2) (and_then (values_allowed 0 (take chi values)) (lines_from source stride width 0 chi))))

-- a fill whose answer is `reply` and whose site has so many cells, the k-th of them f k
pub record Filled (reply : Reply) (cells : ℕ) (f : ℕ → Complex) (old : List Float) (answer : Answer) (end : List Float) : Type 0 where
  pub answer-is : paper answer ≡ reply
  pub out-is : end ≡ if_done (paper answer).0 (written cells f old) old

-- the sizes that are taken
pub record SiteSized (stride width chi : ℕ) : Type 0 where
  pub stride-small : stride ≤ 4096
  pub chi-small : chi ≤ 4096
  pub inside : width ≤ stride
  pub few : width * chi ≤ 4096
