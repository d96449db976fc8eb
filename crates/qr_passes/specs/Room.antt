-- What the lent slices have room for. Assumes nothing.
use Rattle.std.specs.Prelude.{◌≡◌, ℕ, ◌*◌}

-- a has cols columns of rows cells, q has cap such columns, r has cap rows of cols cells, v is one column
pub record QrRoom (rows cols cap la lq lr lv : ℕ) : Type 0 where
  pub a-is : la ≡ 2 * (cols * rows)
  pub q-is : lq ≡ 2 * (cap * rows)
  pub r-is : lr ≡ 2 * (cap * cols)
  pub v-is : lv ≡ 2 * rows
