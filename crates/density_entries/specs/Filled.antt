-- The loops that fill the lower half by blocks: what each knows at its head, and one step of each. Assumes nothing.
use Rattle.std.specs.Prelude.{◌≡◌, List, ℕ, ◌+◌, ◌*◌, ◌%◌, ◌≤◌, ◌<◌, ◌^◌, Float, length, get_or, drop}
use Rattle.complex.specs.declared.Complex.{Complex}
use Rattle.density_entries.specs.Entries.{entry_sum}
use Rattle.density_entries.specs.Squares.{entry_at}
use Rattle.density_entries.specs.Pairs.{RowIs}

-- the entry of row r and column c, by a table of row offsets
abbrev pub table_entry : ℕ → List Float → ℕ → ℕ → List ℕ → ℕ → ℕ → Complex
table_entry n s mask m offsets r c = entry_sum n s mask m (get_or offsets r 0) (get_or offsets c 0)

-- what the loops ask: the register's state and mask, and a table of offsets of the register for an even number of rows
pub record EntriesReady (n : ℕ) (s : List Float) (mask : ℕ) (offsets : List ℕ) (dim : ℕ) : Type 0 where
  pub small : n ≤ 12
  pub long : length s ≡ 2 * 2 ^ n
  pub mask_lt : mask < 2 ^ n
  pub even : dim % 2 ≡ 0
  pub table : dim ≤ length offsets
  pub below : (t : ℕ) → t < dim → get_or offsets t 0 < 2 ^ n

-- the rows 2t and 2t + 1 are f's left of column 2u, and the rows above them are as they were
pub record PairSteps (dim t : ℕ) (f : ℕ → ℕ → Complex) (s end : List Float) (u : ℕ) : Type 0 where
  pub within : u ≤ t + 1
  pub long : length end ≡ length s
  pub surplus : drop (2 * (dim * dim)) end ≡ drop (2 * (dim * dim)) s
  pub upper : RowIs end dim (2 * t) (2 * u) (f (2 * t))
  pub lower : RowIs end dim (2 * t + 1) (2 * u) (f (2 * t + 1))
  pub kept : (r c : ℕ) → r < 2 * t → c < dim → entry_at end dim r c ≡ entry_at s dim r c

-- the rows above 2t are f's up to the diagonal
pub record LowerSteps (dim : ℕ) (f : ℕ → ℕ → Complex) (s end : List Float) (t : ℕ) : Type 0 where
  pub within : 2 * t ≤ dim
  pub long : length end ≡ length s
  pub surplus : drop (2 * (dim * dim)) end ≡ drop (2 * (dim * dim)) s
  pub rows : (r c : ℕ) → r < 2 * t → c ≤ r → entry_at end dim r c ≡ f r c
