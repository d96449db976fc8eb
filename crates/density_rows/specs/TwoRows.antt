-- The sums of two rows in planes of 128 cells, the first row's from cell 0 on and the next one's from cell 64. Assumes nothing.
use Rattle.std.specs.Prelude.{◌≡◌, List, ℕ, ◌+◌, ◌≤◌, ◌<◌, Float, length}
use Rattle.complex.specs.declared.Complex.{Complex}
use Rattle.complex.specs.Planes.{plane_at}
use Rattle.density_entries.specs.Blocks.{added}

-- the row at w: below u one more term, a times the conjugate of b's, and from u on as it was
pub record Added (a : Complex) (b : ℕ → Complex) (w : ℕ) (old end : List Float) (u : ℕ) : Type 0 where
  pub more : (k : ℕ) → k < u → plane_at end 128 (w + k) ≡ added (plane_at old 128 (w + k)) a (b k)
  pub left : (k : ℕ) → u ≤ k → k < 64 → plane_at end 128 (w + k) ≡ plane_at old 128 (w + k)

-- both rows of a term whose amplitudes stand from at on
pub record TermSteps (planes : List Float) (at r : ℕ) (old end : List Float) (u : ℕ) : Type 0 where
  pub long : length end ≡ length old
  pub upper : Added (plane_at planes 4096 (at + r)) (λ k. plane_at planes 4096 (at + k)) 0 old end u
  pub lower : Added (plane_at planes 4096 (at + r + 1)) (λ k. plane_at planes 4096 (at + k)) 64 old end u
