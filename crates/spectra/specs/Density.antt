-- Schmidt values from a reduced density matrix: what a call answers and leaves. Definitions only.
use Rattle.std.specs.Prelude.{◌≡◌, Result, List, ℕ, ◌*◌, Float, length}
use Rattle.answers.specs.declared.Refusal.{Refusal}
use Rattle.answers.specs.Paper.{Reply, paper, given, and_then, if_done, if_worked, at_end}
use Rattle.complex.specs.Zeros.{zeroed}
use Rattle.factored.specs.declared.Counted.{Counted}
use Rattle.factored.specs.Factored.{kept_sweeps, no_count}
use Rattle.finish.specs.Finish.{padded}
use Rattle.weights.specs.Weights.{weights_finished, weights_reply}
use Rattle.spectra.specs.Eigenvalues.{eigenvalues_of, eigenvalues_sweeps, square_refusal}

-- the eigenvalues are the weights
abbrev pub density_values : List Float → ℕ → List Float
density_values rho n = weights_finished (eigenvalues_of rho n)

-- 8 or 9, as the finish gives them
abbrev pub density_values_reply : List Float → ℕ → Reply
density_values_reply rho n = weights_reply (eigenvalues_of rho n)

-- the whole answer
abbrev pub density_values_answer : List Float → ℕ → List Float → List Float → Reply
density_values_answer rho n out scratch = and_then (square_refusal rho n (length out) (length scratch)) (density_values_reply rho n)

-- of a density that is not refused
pub record DensityWorked (rho : List Float) (n : ℕ) (out work : List Float) (r : Result Counted Refusal) (out' work' : List Float) : Type 0 where
  pub answer : paper r ≡ density_values_reply rho n
  pub count : (given no_count r).count ≡ if_done (density_values_reply rho n).0 (length (density_values rho n)) 0
  pub values : out' ≡ if_done (density_values_reply rho n).0 (padded n (density_values rho n) out) (zeroed n out)
  pub cleared : work' ≡ zeroed (2 * (n * n)) work
  pub sweeps-are : (given no_count r).sweeps ≡ kept_sweeps r (eigenvalues_sweeps rho n)

-- of schmidt_values_from_density
pub record DensityValues (rho : List Float) (n : ℕ) (out scratch : List Float) (r : Result Counted Refusal) (out' scratch' : List Float) : Type 0 where
  pub answer : paper r ≡ density_values_answer rho n out scratch
  pub count : (given no_count r).count ≡ if_done (density_values_answer rho n out scratch).0 (length (density_values rho n)) 0
  pub values : out' ≡ at_end (density_values_answer rho n out scratch).0 (padded n (density_values rho n) out) (zeroed n out) out
  pub cleared : scratch' ≡ if_worked (density_values_answer rho n out scratch).0 (zeroed (2 * (n * n)) scratch) scratch
  pub sweeps-are : (given no_count r).sweeps ≡ kept_sweeps r (eigenvalues_sweeps rho n)
