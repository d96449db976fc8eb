-- The amplitudes of a state in planes of 4,096 cells, traced index after traced index. Assumes nothing.
use Rattle.std.specs.Prelude.{◌≡◌, List, ℕ, ◌+◌, ◌*◌, ◌<◌, Float, length, get_or}
use Rattle.std.specs.Int.Bits.{bit_or}
use Rattle.complex.specs.declared.Complex.{Complex}
use Rattle.complex.specs.Cells.{cell_at}
use Rattle.complex.specs.Planes.{plane_at}
use Rattle.submasks.specs.Submasks.{submask_at}

-- the amplitude of row t and traced index e, by a table of row offsets
abbrev pub amplitude_of : ℕ → List Float → ℕ → List ℕ → ℕ → ℕ → Complex
amplitude_of n s mask offsets t e = cell_at s (bit_or (get_or offsets t 0) (submask_at n mask e))

-- the cell of an offset and a base lies in the state
abbrev pub reach : ℕ → List Float → ℕ → ℕ → Type 0
reach n s a base = 2 * bit_or a base + 1 < length s

-- the cells at to at + t are the amplitudes of the base, and those before them are as they were
pub record OneSteps (s : List Float) (offsets : List ℕ) (base at : ℕ) (old end : List Float) (t : ℕ) : Type 0 where
  pub long : length end ≡ length old
  pub are : (k : ℕ) → k < t → plane_at end 4096 (at + k) ≡ cell_at s (bit_or (get_or offsets k 0) base)
  pub kept : (j : ℕ) → j < at → plane_at end 4096 j ≡ plane_at old 4096 j

-- the planes hold f t e at e * dim + t, for the traced indices below m
pub record Gathered (f : ℕ → ℕ → Complex) (dim : ℕ) (planes : List Float) (m : ℕ) : Type 0 where
  pub long : length planes ≡ 8192
  pub are : (e t : ℕ) → e < m → t < dim → plane_at planes 4096 (e * dim + t) ≡ f t e
