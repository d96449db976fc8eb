-- Two rows of a density left of their diagonal block. What stands across the diagonal is the mirror's and may be anything. Assumes nothing.
use Rattle.std.specs.Prelude.{◌≡◌, List, ℕ, ◌+◌, ◌*◌, ◌≤◌, ◌<◌, Float, length, drop}
use Rattle.complex.specs.declared.Complex.{Complex}
use Rattle.complex.specs.Arithmetic.{complex_of}
use Rattle.density_entries.specs.declared.Block.{Block}
use Rattle.density_entries.specs.Squares.{entry_at}
use Rattle.density_entries.specs.Pairs.{set_pair, RowIs}

-- the sums of the block of the rows r and r + 1 and the columns c and c + 1, across the diagonal: the parts of the first and the fourth, and of
-- the second and the third, side by side
unfoldable pub across_set : List Float → ℕ → ℕ → ℕ → Block → List Float
across_set s dim r c b =
    set_pair
    (set_pair s dim c r (complex_of b.first.re b.fourth.re) (complex_of b.first.im b.fourth.im))
    dim (c + 1) r (complex_of b.second.re b.third.re) (complex_of b.second.im b.third.im)

-- the rows 2t and 2t + 1 are f's left of column 2u, and the rows above them are as they were up to the diagonal
pub record LeftSteps (dim t : ℕ) (f : ℕ → ℕ → Complex) (s end : List Float) (u : ℕ) : Type 0 where
  pub within : u ≤ t
  pub long : length end ≡ length s
  pub surplus : drop (2 * (dim * dim)) end ≡ drop (2 * (dim * dim)) s
  pub upper : RowIs end dim (2 * t) (2 * u) (f (2 * t))
  pub lower : RowIs end dim (2 * t + 1) (2 * u) (f (2 * t + 1))
  pub kept : (r c : ℕ) → r < 2 * t → c ≤ r → entry_at end dim r c ≡ entry_at s dim r c
