-- The check that a state's two pages agree: its answer, and its yes or no. Assumes nothing.
use Rattle.std.specs.Prelude.{Bool, true, false, ◌&&◌, ◌≡◌, List, [], ◌∷◌, ℕ, ◌*◌, ◌^◌, ◌≤◌, eqb, Float, length, Result}
use Rattle.std.specs.Float.{binary64}
use Rattle.std.specs.Float.Ieee.{to_bits}
use Rattle.answers.specs.declared.Refusal.{Refusal}
use Rattle.answers.specs.Paper.{Reply, paper, given, and_then, if_done}
use Rattle.complex.specs.Cells.{written}
use Rattle.cut_sides.specs.Sides.{Parted}
use Rattle.cuts.specs.Cut.{cut_answer, cut_cell}
use Rattle.densities.specs.Density.{density_answer, density_list}
use Rattle.density_recount.specs.Recount.{recount_sizes, recounted}

-- the same length, and the same bits throughout
unfoldable pub same_floats : List Float → List Float → Bool
same_floats [] [] = true
same_floats [] (y ∷ b) = false
same_floats (x ∷ a) [] = false
same_floats (x ∷ a) (y ∷ b) = eqb (to_bits binary64 x) (to_bits binary64 y) && same_floats a b

-- the cut's answer, then the density's, over arrays that are long enough for both: an answer 6 is only the state's
abbrev pub both_answer : List Float → ℕ → List ℕ → ℕ → Reply
both_answer s n l cap = and_then (cut_answer s n l cap 8192) (density_answer s n l cap 8192 128)

-- the sizes of both first, as 1 comes before 2
abbrev pub pages_answer : List Float → ℕ → List ℕ → ℕ → Reply
pages_answer s n l cap = and_then (recount_sizes n (length l) cap) (both_answer s n l cap)

-- THE COMPARISON: the density of the state, and the one summed from its cut matrix alone, have the same bits throughout
unfoldable pub pages_same : List Float → ℕ → List ℕ → Bool
unfolding same_floats
pages_same s n l = same_floats (density_list n l s []) (recounted n l (written (2 ^ n) (cut_cell s n l) []) [])

-- what the check says where its answer is a: the comparison on answer 0, and no on any other
pub record Says (a : Reply) (same : Bool) (r : Result Bool Refusal) : Type 0 where
  pub answer : paper r ≡ a
  pub agree : given false r ≡ if_done a.0 same false

-- what the comparison asks: an accepted list of at most six qubits, the state, and its cut matrix
pub record Held (s m : List Float) (n : ℕ) (l : List ℕ) : Type 0 where
  pub parted : Parted l n
  pub some : 1 ≤ length l
  pub few : length l ≤ 6
  pub state : length s ≡ 2 * 2 ^ n
  pub matrix : m ≡ written (2 ^ n) (cut_cell s n l) []
