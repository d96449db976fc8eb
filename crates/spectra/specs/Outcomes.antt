-- What a call answers and leaves: one outcome for each input, refusals too. Definitions only.
use Rattle.std.specs.Prelude.{◌≡◌, Result, List, ℕ, ◌*◌, ◌≤◌, Float}
use Rattle.factored.specs.Factored.{kept_sweeps}
use Rattle.sweeps.specs.declared.Sweeps.{Sweeps}
use Rattle.sweeps.specs.Sweeping.{no_sweeps}
use Rattle.answers.specs.declared.Refusal.{Refusal}
use Rattle.answers.specs.Paper.{paper, given, if_done, if_worked, at_end}
use Rattle.complex.specs.Zeros.{zeroed}
use Rattle.tables.specs.Tables.{filled}
use Rattle.spectra.specs.Eigenvalues.{eigenvalue, eigenvalues_sweeps, eigen_reply, eigen_answer}

-- the lengths of a call that is not refused
pub record Given (n a out scratch : ℕ) : Type 0 where
  pub some : 1 ≤ n
  pub side : n ≤ 64
  pub matrix : a ≡ 2 * (n * n)
  pub room : n ≤ out
  pub spare : 2 * (n * n) ≤ scratch

-- of a matrix that is not refused
pub record SpectrumWorked (a : List Float) (n : ℕ) (out scratch : List Float) (r : Result Sweeps Refusal) (out' scratch' : List Float) : Type 0 where
  pub answer : paper r ≡ eigen_reply a n
  pub values : out' ≡ if_done (eigen_reply a n).0 (filled n (eigenvalue a n) out) (zeroed n out)
  pub cleared : scratch' ≡ zeroed (2 * (n * n)) scratch
  pub sweeps-are : given no_sweeps r ≡ kept_sweeps r (eigenvalues_sweeps a n)

-- of hermitian_eigenvalues
pub record Eigenvalues (a : List Float) (n : ℕ) (out scratch : List Float) (r : Result Sweeps Refusal) (out' scratch' : List Float) : Type 0 where
  pub answer : paper r ≡ eigen_answer a n out scratch
  pub values : out' ≡ at_end (eigen_answer a n out scratch).0 (filled n (eigenvalue a n) out) (zeroed n out) out
  pub cleared : scratch' ≡ if_worked (eigen_answer a n out scratch).0 (zeroed (2 * (n * n)) scratch) scratch
  pub sweeps-are : given no_sweeps r ≡ kept_sweeps r (eigenvalues_sweeps a n)
