-- Rows of the density from the planes: their sums over the traced indices, and the rows written. Assumes nothing.
use Rattle.std.specs.Prelude.{◌≡◌, List, ℕ, ◌+◌, ◌*◌, ◌<◌, Float, length, drop}
use Rattle.complex.specs.declared.Complex.{Complex}
use Rattle.complex.specs.Arithmetic.{complex_of, product, conjugate}
use Rattle.complex.specs.Planes.{plane_at}
use Rattle.complex.specs.Zeros.{zero_float}
use Rattle.density_entries.specs.Entries.{total}
use Rattle.density_entries.specs.Squares.{entry_at}
use Rattle.density_entries.specs.Pairs.{RowIs}

-- the entry of row t and column u over the first m traced indices, from the planes
abbrev pub plane_entry : List Float → ℕ → ℕ → ℕ → ℕ → Complex
plane_entry planes dim m t u = total m (λ e. product (plane_at planes 4096 (e * dim + t)) (conjugate (plane_at planes 4096 (e * dim + u))))

-- sums before any term
pub record ZeroSums (sums : List Float) : Type 0 where
  pub long : length sums ≡ 256
  pub at : (j : ℕ) → j < 128 → plane_at sums 128 j ≡ complex_of zero_float zero_float

-- the sums from cell w on are those of a row over the first e traced indices
pub record SumsAre (planes : List Float) (dim row w m : ℕ) (sums : List Float) (e : ℕ) : Type 0 where
  pub at : (k : ℕ) → k < m → plane_at sums 128 (w + k) ≡ plane_entry planes dim e row k

pub record PairSums (planes : List Float) (dim r m : ℕ) (sums : List Float) (e : ℕ) : Type 0 where
  pub long : length sums ≡ 256
  pub upper : SumsAre planes dim r 0 m sums e
  pub lower : SumsAre planes dim (r + 1) 64 m sums e

-- ---- a row written

-- row r is the sums from cell w on, left of column u, and every other row is as it was
pub record RowSumSteps (sums : List Float) (w dim r : ℕ) (old end : List Float) (u : ℕ) : Type 0 where
  pub long : length end ≡ length old
  pub surplus : drop (2 * (dim * dim)) end ≡ drop (2 * (dim * dim)) old
  pub row : RowIs end dim r u (λ k. plane_at sums 128 (w + k))
  pub kept : (r' c : ℕ) → c < dim → (r' ≡ r → ⊥) → entry_at end dim r' c ≡ entry_at old dim r' c
