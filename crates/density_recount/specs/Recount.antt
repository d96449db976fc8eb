-- The call that sums the density from a lent cut matrix alone: its answer, and what it leaves behind. Assumes nothing.
use Rattle.std.specs.Prelude.{Bool, true, false, not, ◌≡◌, List, ℕ, ◌+◌, ◌-◌, ◌*◌, ◌^◌, ◌≤◌, ◌<◌, min, ltb, eqb, Float, length, get_or}
use Rattle.answers.specs.Paper.{Answer, Reply, paper, done, refuse, and_then, if_done}
use Rattle.qubits.specs.Lists.{register, subsystem}
use Rattle.complex.specs.Cells.{written, components}
use Rattle.cut_sides.specs.Sides.{Parted}
use Rattle.agreement.specs.FromCut.{number_of, cut_density_cell}
use Rattle.density_recount.specs.declared.Layout.{Layout}

-- 1: the register, a cut's n+1 and a density's 2k against the cap, which is at most 13
abbrev pub recount_sizes : ℕ → ℕ → ℕ → Reply
recount_sizes n k cap =
    register n (refuse (ltb (min cap 13) (n + 1)) (1, 0) (refuse (ltb (min cap 13) (2 * k)) (1, 0) done))

-- 6: the matrix, slice 0, has exactly a cut's length, and out, slice 2 after the list, at least a density's
abbrev pub recount_lengths : ℕ → ℕ → ℕ → ℕ → Reply
recount_lengths size dim m out = refuse (not (eqb m (2 * size))) (6, 0) (refuse (ltb out (2 * (dim * dim))) (6, 2) done)

-- 1 to 7
abbrev pub recount_answer : List Float → ℕ → List ℕ → ℕ → ℕ → Reply
recount_answer m n l cap out =
    and_then (recount_sizes n (length l) cap)
    (and_then (subsystem n l) (and_then (recount_lengths (2 ^ n) (2 ^ length l) (length m) out) (components 0 m)))

-- the front of the list is the density summed from the cut matrix m
abbrev pub recounted : ℕ → List ℕ → List Float → List Float → List Float
recounted n l m o = written (2 ^ length l * 2 ^ length l) (cut_density_cell n l m) o

-- a call of `density_from_cut`: the answer r, and what out holds at the end
pub record DensityFromCut (m : List Float) (n : ℕ) (l : List ℕ) (cap : ℕ) (o : List Float) (r : Answer) (end : List Float) : Type 0 where
  pub answer : paper r ≡ recount_answer m n l cap (length o)
  pub cells : end ≡ if_done (recount_answer m n l cap (length o)).0 (recounted n l m o) o

-- ---- what the inner functions ask and leave

-- where the traced index lies in a cell's number, and by what the setting's number is scaled: rows of a matrix of `size` cells
abbrev pub layout_of : Bool → ℕ → ℕ → Layout
layout_of true rows size = record { mask = size - rows; scale = 1 }
layout_of false rows size = record { mask = rows - 1; scale = rows }

pub record RecountAccepted (m : List Float) (n : ℕ) (l : List ℕ) (o : ℕ) : Type 0 where
  pub parted : Parted l n
  pub some : 1 ≤ length l
  pub few : length l ≤ 6
  pub matrix : length m ≡ 2 * 2 ^ n
  pub room : 2 * (2 ^ length l * 2 ^ length l) ≤ o

-- the table of the settings' numbers, scaled, filled below t
pub record Numbers (l : List ℕ) (n scale dim : ℕ) (old end : List ℕ) (t : ℕ) : Type 0 where
  pub within : t ≤ dim
  pub long : length end ≡ length old
  pub are : (k : ℕ) → k < t → get_or end k 0 ≡ number_of n l k * scale
