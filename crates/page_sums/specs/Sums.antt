-- What the comparison of a file's two pages asks. Assumes nothing.
use Rattle.std.specs.Prelude.{◌≡◌, List, [], ℕ, ◌≤◌, Float}
use Rattle.cut_sides.specs.Sides.{cut_refusal}
use Rattle.densities.specs.Density.{density_answer, density_list}

-- a state of at most 9 qubits and a list that the cut and the density accept, and that density
pub record Summable (s : List Float) (n : ℕ) (l : List ℕ) (d : List Float) : Type 0 where
  pub small : n ≤ 9
  pub taken : (cut_refusal l n 10).0 ≡ 0
  pub accepted : (density_answer s n l 10 2048 64).0 ≡ 0
  pub density : d ≡ density_list n l s []
