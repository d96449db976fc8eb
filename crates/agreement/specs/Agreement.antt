-- DEMAND 3, of the calls, from their contracts alone: whatever a cut and a density of the same list, both answered 0, left behind.
-- Assumes nothing.
use Rattle.std.specs.Prelude.{◌≡◌, List, ℕ, ◌^◌, ◌<◌, Float}
use Rattle.complex.specs.Cells.{cell_at}
use Rattle.cuts.specs.Cut.{source_of}
use Rattle.agreement.specs.FromCut.{place_of}

-- the matrix m holds each amplitude of the state s once, in the cell that its index bits name, and each cell holds the one of its source
pub record HoldsOnce (s : List Float) (n : ℕ) (l : List ℕ) (m : List Float) : Type 0 where
  pub in-matrix : (x : ℕ) → place_of n l x < 2 ^ n
  pub held : (x : ℕ) → x < 2 ^ n → cell_at m (place_of n l x) ≡ cell_at s x
  pub there : (x : ℕ) → x < 2 ^ n → source_of n l (place_of n l x) ≡ x
  pub alone : (k : ℕ) → k < 2 ^ n → place_of n l (source_of n l k) ≡ k
  pub source_in : (k : ℕ) → k < 2 ^ n → source_of n l k < 2 ^ n
  pub cell : (k : ℕ) → k < 2 ^ n → cell_at m k ≡ cell_at s (source_of n l k)
