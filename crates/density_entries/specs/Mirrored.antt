-- The mirror's loops: what each knows at its head, and one step of each. Assumes nothing.
use Rattle.std.specs.Prelude.{◌≡◌, List, ℕ, ◌*◌, ◌≤◌, ◌<◌, Float, length, drop}
use Rattle.complex.specs.Arithmetic.{conjugate}
use Rattle.density_entries.specs.Squares.{entry_at}

-- above row u the column t is the conjugate of the row t, and every other cell is as it was
pub record ColumnSteps (dim t : ℕ) (s end : List Float) (u : ℕ) : Type 0 where
  pub within : u ≤ t
  pub long : length end ≡ length s
  pub surplus : drop (2 * (dim * dim)) end ≡ drop (2 * (dim * dim)) s
  pub mirrored : (r : ℕ) → r < u → entry_at end dim r t ≡ conjugate (entry_at s dim t r)
  pub kept : (r c : ℕ) → r < dim → c < dim → (c ≡ t → r < u → ⊥) → entry_at end dim r c ≡ entry_at s dim r c
