-- The loops of `multiply_block_factor`. Assumes nothing.
use Rattle.std.specs.Prelude.{◌≡◌, List, ℕ, ◌*◌, ◌≤◌, ◌<◌, Float, length, drop}
use Rattle.complex.specs.declared.Complex.{Complex}
use Rattle.complex.specs.Arithmetic.{product}
use Rattle.density_entries.specs.Squares.{entry_at}

-- ---- the loops over the entries

-- left of column u the row t is multiplied, and every other entry is as it was
pub record FactorSteps (dim t : ℕ) (g : ℕ → Complex) (s end : List Float) (u : ℕ) : Type 0 where
  pub within : u ≤ dim
  pub long : length end ≡ length s
  pub surplus : drop (2 * (dim * dim)) end ≡ drop (2 * (dim * dim)) s
  pub reached : (c : ℕ) → c < u → entry_at end dim t c ≡ product (entry_at s dim t c) (g c)
  pub kept : (r c : ℕ) → r < dim → c < dim → (r ≡ t → c < u → ⊥) → entry_at end dim r c ≡ entry_at s dim r c
