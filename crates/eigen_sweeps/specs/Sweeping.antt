-- The sweeps of the eigenvalues over a square matrix of n rows: the room they ask, what they do with a pair, and their cap. Assumes nothing.
use Rattle.std.specs.Prelude.{◌≡◌, List, [], ℕ, zero, suc, ◌+◌, ◌*◌, ◌≤◌, Float, get_or}
use Rattle.std.specs.Float.{nan}
use Rattle.numbers.specs.Numbers.{larger_of}
use Rattle.complex.specs.Planes.{plane_at}
use Rattle.complex.specs.Zeros.{zero_float}
use Rattle.sweeps.specs.declared.Sweeps.{Sweeps}
use Rattle.sweeps.specs.Sweeping.{State, state, Pairing, settled_by}
use Rattle.eigen_pair.specs.Decide.{eigen_decision}
use Rattle.eigen_pair.specs.Turn.{eigen_applied}

-- the planes of a square matrix of n rows, in a list of this length
pub record SquareRoom (n l : ℕ) : Type 0 where
  pub cells : l ≡ 2 * (n * n)
  pub rows : n ≤ 64

-- the real part of the diagonal entry i
abbrev pub diagonal : List Float → ℕ → ℕ → Float
diagonal xs n i = get_or xs (i * n + i) nan

-- the largest of the first k diagonal entries, and at least +0.0
unfoldable pub largest_to : List Float → ℕ → ℕ → Float
largest_to xs n zero = zero_float
largest_to xs n (suc k) = larger_of (largest_to xs n k) (diagonal xs n k)

-- ---- the sweeps

-- the matrix and the counts: there is no V
abbrev pub eigen_state : List Float → Sweeps → State
eigen_state work s = state work [] s

-- the pair p, q is decided by its entry, its two diagonal entries and the largest one, and turned in the matrix
unfoldable pub eigen_pairing : ℕ → Float → Pairing
eigen_pairing n largest =
    record {
      decide = λ p q xs. eigen_decision (plane_at xs (n * n) (p * n + q)) (diagonal xs n p) (diagonal xs n q) largest;
      on_work = λ d p q xs. eigen_applied d n p q xs;
      on_v = λ d p q v. v;
    }

-- the largest diagonal entry is taken as the sweep begins
abbrev pub eigen_pairings : ℕ → List Float → Pairing
eigen_pairings n work = eigen_pairing n (largest_to work n n)

-- 60 sweeps at most
unfoldable pub eigen_settled : ℕ → List Float → State
eigen_settled n work = settled_by (eigen_pairings n) 60 n work []
