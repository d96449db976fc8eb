-- What a cut file gives, for every list of bytes. Definitions only.
use Rattle.std.specs.Prelude.{◌≡◌, Bool, false, List, ℕ, ◌*◌, ◌^◌, Float, length}
use Rattle.std.specs.Prelude as Std
use Rattle.answers.specs.declared.Refusal.{Refusal}
use Rattle.answers.specs.Paper.{Reply, paper, given, and_then, if_done, at_end}
use Rattle.complex.specs.Zeros.{zeroed}
use Rattle.cutfile.specs.Bytes.{word32}
use Rattle.cutfile.specs.Layout.{header_answer, n_of, k_of, file_entry, component_at}
use Rattle.tables.specs.Tables.{table, filled}
use Rattle.sweeps.specs.declared.Sweeps.{Sweeps}
use Rattle.sweeps.specs.Sweeping.{no_sweeps}
use Rattle.finish.specs.Finish.{finish_of, padded}
use Rattle.cut_values.specs.declared.CutCounted.{CutCounted}
use Rattle.cut_values.specs.Schmidt.{cut_rows, singular_values, cut_sweeps, cut_exact, cut_values_answer, no_cut}
use Rattle.cutfile_result.specs.declared.CutResult.{CutResult}

-- the list and the state that a file of k entries and n qubits holds
abbrev pub list_of : List ℕ → ℕ → List ℕ
list_of file k = table k (file_entry file)

abbrev pub state_of : List ℕ → ℕ → ℕ → List Float
state_of file n k = table (2 * 2 ^ n) (component_at file k)

-- the library's answer with export cap 10, room for 16 values and 4,128 numbers of scratch
unfoldable pub cut_reply : List Float → ℕ → List ℕ → Reply
cut_reply state n list = cut_values_answer state n list 10 16 4128

-- the values of a cut, and what a lent list holds of them at the end
abbrev pub values_of : List Float → ℕ → List ℕ → List Float
values_of state n list = finish_of (singular_values state n list)

abbrev pub values_at : List Float → ℕ → List ℕ → List Float → List Float
values_at state n list old =
    at_end (cut_reply state n list).0 (padded (cut_rows n list) (values_of state n list) old) (zeroed (cut_rows n list) old) old

-- ---- a file

-- the answer of the library for a file whose header was answered 0
abbrev pub library_reply : List ℕ → ℕ → ℕ → Reply
library_reply file n k = cut_reply (state_of file n k) n (list_of file k)

-- the header's answer, then the library's
unfoldable pub file_reply : List ℕ → Reply
unfolding cut_reply
file_reply file = and_then (header_answer file) (library_reply file (word32 file 4) (word32 file 8))

-- the list and the values of a file that is answered 0
abbrev pub file_list : List ℕ → List ℕ
file_list file = list_of file (word32 file 8)

abbrev pub file_values : List ℕ → List Float
file_values file = values_of (state_of file (word32 file 4) (word32 file 8)) (word32 file 4) (file_list file)

-- how the sweeps on it went
abbrev pub file_sweeps : List ℕ → Sweeps
file_sweeps file = cut_sweeps (state_of file (word32 file 4) (word32 file 8)) (word32 file 4) (file_list file)

-- the mark of its roots
abbrev pub file_exact : List ℕ → Bool
file_exact file = cut_exact (state_of file (word32 file 4) (word32 file 8)) (word32 file 4) (file_list file)

-- the answer; n and k, 0 where the header is refused; the count, the sweeps and the mark; the lent list and values, as they were where the header is refused
pub record Result (file : List ℕ) (list : List ℕ) (values : List Float) (r : CutResult) (list' : List ℕ) (values' : List Float) : Type 0 where
  pub answer : paper r.cut ≡ file_reply file
  pub n-is : r.n ≡ n_of file
  pub k-is : r.k ≡ k_of file
  pub count : (given no_cut r.cut).count ≡ if_done (file_reply file).0 (length (file_values file)) 0
  pub sweeps-are : (given no_cut r.cut).sweeps ≡ if_done (file_reply file).0 (file_sweeps file) no_sweeps
  pub exact-is : (given no_cut r.cut).exact ≡ if_done (file_reply file).0 (file_exact file) false
  pub list-is : list' ≡ if_done (header_answer file).0 (filled (word32 file 8) (file_entry file) list) list
  pub values-are : values' ≡ if_done (header_answer file).0 (values_at (state_of file (word32 file 4) (word32 file 8)) (word32 file 4) (file_list file) values) values
  pub list-long : length list' ≡ length list
  pub values-long : length values' ≡ length values

-- ---- the steps

-- the cut values over the room that is lent here
pub record Valued (state : List Float) (n : ℕ) (list : List ℕ) (values : List Float) (r : Std.Result CutCounted Refusal) (values' : List Float) : Type 0 where
  pub answer : paper r ≡ cut_reply state n list
  pub count : (given no_cut r).count ≡ if_done (cut_reply state n list).0 (length (values_of state n list)) 0
  pub sweeps-are : (given no_cut r).sweeps ≡ if_done (cut_reply state n list).0 (cut_sweeps state n list) no_sweeps
  pub exact-is : (given no_cut r).exact ≡ if_done (cut_reply state n list).0 (cut_exact state n list) false
  pub values-are : values' ≡ values_at state n list values

-- of a file whose header was answered 0
pub record FileValued (file : List ℕ) (n k : ℕ) (list : List ℕ) (values : List Float) (r : Std.Result CutCounted Refusal) (list' : List ℕ) (values' : List Float) : Type 0 where
  pub list-is : list' ≡ filled k (file_entry file) list
  pub valued : Valued (state_of file n k) n (list_of file k) values r values'
