-- The entropy of a cut as a band: its answer, the weights left, each one's band in their sum, and the sums. Definitions only.
use Rattle.std.specs.Prelude.{◌≡◌, List, [], ◌++◌, ℕ, ◌-◌, ◌*◌, ◌^◌, ◌≤◌, eqb, Float, length, drop, replicate, Result}
use Rattle.answers.specs.declared.Refusal.{Refusal}
use Rattle.answers.specs.Paper.{Reply, paper, given, done, refuse, and_then, exactly, room, if_done, if_worked, at_end}
use Rattle.complex.specs.Cells.{components}
use Rattle.complex.specs.Zeros.{zeroed}
use Rattle.cut_sides.specs.Sides.{cut_refusal}
use Rattle.finish.specs.Finish.{finish_of}
use Rattle.sweeps.specs.declared.Sweeps.{Sweeps}
use Rattle.sweeps.specs.Sweeping.{no_sweeps}
use Rattle.factored.specs.Factored.{kept_sweeps}
use Rattle.cut_values.specs.Schmidt.{cut_rows, singular_values, cut_sweeps, cut_values_scratch, cut_values_tests, values_reply}
use Rattle.entropy_sums.specs.Sums.{weights_left, whole_weight, bands_of, low_sum, high_sum}
use Rattle.entropy_bands.specs.declared.Entropy.{Entropy}

-- ---- the answer

-- 6: the state, slice 0, has exactly 2·2^n numbers; bands, slice 2 after the list, three for each row; scratch, slice 3, the cut's need
unfoldable pub entropy_lengths : ℕ → ℕ → ℕ → ℕ → ℕ → Reply
entropy_lengths n rows state bands scratch =
    and_then (exactly 0 state (2 * 2 ^ n)) (and_then (room 2 bands (3 * rows)) (room 3 scratch (cut_values_scratch n rows)))

-- 6 and 7
unfoldable pub entropy_rest : List Float → ℕ → ℕ → ℕ → ℕ → Reply
entropy_rest s n rows bands scratch = and_then (entropy_lengths n rows (length s) bands scratch) (components 0 s)

-- 1 to 7
unfoldable pub entropy_tests : List Float → ℕ → List ℕ → ℕ → ℕ → ℕ → Reply
entropy_tests s n l cap bands scratch = and_then (cut_refusal l n cap) (entropy_rest s n (cut_rows n l) bands scratch)

-- the cut's 8 and 9, and 8 where no weight is left of its values
unfoldable pub entropy_reply : List Float → Reply
entropy_reply values = and_then (values_reply values) (refuse (eqb (length (weights_left (finish_of values))) 0) (8, 0) done)

unfoldable pub entropy_answer : List Float → ℕ → List ℕ → ℕ → ℕ → ℕ → Reply
entropy_answer s n l cap bands scratch = and_then (entropy_tests s n l cap bands scratch) (entropy_reply (singular_values s n l))

-- ---- the call

-- the Schmidt values of the cut
abbrev pub cut_values : List Float → ℕ → List ℕ → List Float
cut_values s n l = finish_of (singular_values s n l)

-- numbers at the front, 0 up to the needed n, and past that what was there
unfoldable pub padded_cells : ℕ → List ℕ → List ℕ → List ℕ
padded_cells n l old = l ++ replicate (n - length l) 0 ++ drop n old

-- w, lo and hi of each weight left of values
abbrev pub bands_left : List Float → List ℕ
bands_left values = bands_of (whole_weight values) (weights_left values)

-- no band, no sweep: what a refused call gives
abbrev pub no_entropy : Entropy
no_entropy = record { count = 0; low = 0; high = 0; whole = 0; sweeps = no_sweeps }

-- the answer, how many weights are left, the sums, 4096 times the whole, the cut's sweeps, and what bands and scratch hold at the end
pub record EntropyBand (s : List Float) (n : ℕ) (l : List ℕ) (cap : ℕ) (bands : List ℕ) (scratch : List Float) (r : Result Entropy Refusal) (bands' : List ℕ) (scratch' : List Float) : Type 0 where
  pub answer : paper r ≡ entropy_answer s n l cap (length bands) (length scratch)
  pub count : (given no_entropy r).count ≡ if_done (paper r).0 (length (weights_left (cut_values s n l))) 0
  pub low : (given no_entropy r).low ≡ if_done (paper r).0 (low_sum (whole_weight (cut_values s n l)) (weights_left (cut_values s n l))) 0
  pub high : (given no_entropy r).high ≡ if_done (paper r).0 (high_sum (whole_weight (cut_values s n l)) (weights_left (cut_values s n l))) 0
  pub whole : (given no_entropy r).whole ≡ if_done (paper r).0 (4096 * whole_weight (cut_values s n l)) 0
  pub sweeps-are : (given no_entropy r).sweeps ≡ kept_sweeps r (cut_sweeps s n l)
  pub bands-are : bands' ≡ at_end (paper r).0 (padded_cells (3 * cut_rows n l) (bands_left (cut_values s n l)) bands) (padded_cells (3 * cut_rows n l) [] bands) bands
  pub scratch-is : scratch' ≡ if_worked (paper r).0 (zeroed (cut_values_scratch n (cut_rows n l)) scratch) scratch

-- ---- the steps

pub record SumReady (values : List Float) (bands : List ℕ) : Type 0 where
  pub few : length values ≤ 64
  pub long : 3 * length values ≤ length bands
  pub blank : bands ≡ replicate (length bands) 0

-- the answer is number x: the count, the sums and the sweeps of finished values
pub record BandTold (x : ℕ) (values : List Float) (sweeps : Sweeps) (r : Entropy) : Type 0 where
  pub count : r.count ≡ if_done x (length (weights_left values)) 0
  pub low : r.low ≡ if_done x (low_sum (whole_weight values) (weights_left values)) 0
  pub high : r.high ≡ if_done x (high_sum (whole_weight values) (weights_left values)) 0
  pub whole : r.whole ≡ if_done x (4096 * whole_weight values) 0
  pub sweeps-are : r.sweeps ≡ if_done x sweeps no_sweeps

pub record SummedUp (values : List Float) (sweeps : Sweeps) (long : ℕ) (r : Result Entropy Refusal) (end : List ℕ) : Type 0 where
  pub answer : paper r ≡ refuse (eqb (length (weights_left values)) 0) (8, 0) done
  pub told : BandTold (paper r).0 values sweeps (given no_entropy r)
  pub bands-are : end ≡ if_done (paper r).0 (bands_left values ++ replicate (long - length (bands_left values)) 0) (replicate long 0)

pub record WorkReady (s : List Float) (n : ℕ) (l : List ℕ) (cap rows : ℕ) (bands : List ℕ) (scratch : List Float) : Type 0 where
  pub rows_are : rows ≡ cut_rows n l
  pub few : rows ≤ 64
  pub passed : (cut_values_tests s n l cap rows (length scratch)).0 ≡ 0
  pub long : length bands ≡ 3 * rows

pub record EntropyWorked (s : List Float) (n : ℕ) (l : List ℕ) (rows : ℕ) (scratch : List Float) (r : Result Entropy Refusal) (bands' : List ℕ) (scratch' : List Float) : Type 0 where
  pub answer : paper r ≡ entropy_reply (singular_values s n l)
  pub told : BandTold (paper r).0 (cut_values s n l) (cut_sweeps s n l) (given no_entropy r)
  pub bands-are : bands' ≡ if_done (paper r).0 (bands_left (cut_values s n l) ++ replicate (3 * rows - length (bands_left (cut_values s n l))) 0) (replicate (3 * rows) 0)
  pub scratch-is : scratch' ≡ zeroed (cut_values_scratch n rows) scratch
