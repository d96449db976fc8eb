-- `dense_reduced_density`: its answer, and what it leaves in the lent slices. Assumes nothing.
use Rattle.std.specs.Prelude.{◌≡◌, not, true, List, ℕ, ◌*◌, ◌^◌, ◌≤◌, ltb, eqb, Float, length}
use Rattle.answers.specs.Paper.{Answer, Reply, paper, done, refuse, and_then, if_done}
use Rattle.complex.specs.Cells.{written, components}
use Rattle.complex.specs.Zeros.{zeroed}
use Rattle.components.specs.Every.{every_allowed}
use Rattle.qubit_offsets.specs.Calls.{density_refusal}
use Rattle.submasks.specs.Submasks.{others}
use Rattle.qubits.specs.Lists.{Listed}
use Rattle.qubits.specs.Spread.{named}
use Rattle.density_entries.specs.Entries.{density_cell}

-- 6, of a register of `size` amplitudes and a density of side dim: the state is slice 0, out is 2 and scratch is 3
abbrev pub density_lengths : ℕ → ℕ → ℕ → ℕ → ℕ → Reply
density_lengths size dim s o w =
    refuse (not (eqb s (2 * size))) (6, 0) (refuse (ltb o (2 * (dim * dim))) (6, 2) (refuse (ltb w (2 * dim)) (6, 3) done))

-- 6 and 7, of a list of k qubits
abbrev pub density_rest : List Float → ℕ → ℕ → ℕ → ℕ → Reply
density_rest s n k o w = and_then (density_lengths (2 ^ n) (2 ^ k) (length s) o w) (components 0 s)

-- 1 to 4, then 6, then 7; never 5, 8 or 9
abbrev pub density_answer : List Float → ℕ → List ℕ → ℕ → ℕ → ℕ → Reply
density_answer s n l cap o w = and_then (density_refusal n cap l) (density_rest s n (length l) o w)

-- a list whose front is the density, row after row
abbrev pub density_list : ℕ → List ℕ → List Float → List Float → List Float
density_list n l s o = written (2 ^ length l * 2 ^ length l) (density_cell n l s) o

-- the answer r, and what out and scratch hold at the end
pub record Density (s : List Float) (n : ℕ) (l : List ℕ) (cap : ℕ) (o w : List Float) (r : Answer) (out scratch : List Float) : Type 0 where
  pub answer : paper r ≡ density_answer s n l cap (length o) (length w)
  pub matrix : out ≡ if_done (density_answer s n l cap (length o) (length w)).0 (density_list n l s o) o
  pub cleared : scratch ≡ if_done (density_answer s n l cap (length o) (length w)).0 (zeroed (2 * 2 ^ length l) w) w

-- ---- what the inner functions ask and leave

-- a list that 1 to 4 do not refuse, and the mask of the qubits that it does not name
pub record DensityListed (n : ℕ) (l : List ℕ) (rest : ℕ) : Type 0 where
  pub listed : Listed n l
  pub some : 1 ≤ length l
  pub few : length l ≤ 6
  pub mask : rest ≡ others n (named l)

-- the density of such a list, which only 6 and 7 refuse
pub record DensityOver (s : List Float) (n : ℕ) (l : List ℕ) (o w : List Float) (r : Answer) (out scratch : List Float) : Type 0 where
  pub answer : paper r ≡ density_rest s n (length l) (length o) (length w)
  pub matrix : out ≡ if_done (density_rest s n (length l) (length o) (length w)).0 (density_list n l s o) o
  pub cleared : scratch ≡ if_done (density_rest s n (length l) (length o) (length w)).0 (zeroed (2 * 2 ^ length l) w) w

pub record DensityAccepted (s : List Float) (n : ℕ) (l : List ℕ) (o : ℕ) : Type 0 where
  pub listed : Listed n l
  pub some : 1 ≤ length l
  pub few : length l ≤ 6
  pub state : length s ≡ 2 * 2 ^ n
  pub room : 2 * (2 ^ length l * 2 ^ length l) ≤ o
  pub allowed : every_allowed s ≡ true
