-- The cut file's layout: where its parts lie, and what its header is answered by. Assumes nothing.
use Rattle.std.specs.Prelude.{Result, ◌≡◌, false, not, cond, List, [], ◌∷◌, ℕ, ◌+◌, ◌-◌, ◌*◌, ◌/◌, ◌^◌, ◌≤◌, eqb, ltb, Float, length, take, drop}
use Rattle.std.specs.Float.{inf, binary64}
use Rattle.std.specs.Float.Ieee.{of_bits, nan_bits}
use Rattle.answers.specs.declared.Refusal.{Refusal}
use Rattle.answers.specs.Paper.{Reply, paper, given, refuse, and_then, done, if_done}
use Rattle.cutfile.specs.declared.Header.{Header}
use Rattle.cutfile.specs.Bytes.{word32, word64, begins, all_zero}

-- the bytes `CUT1`
abbrev pub mark : List ℕ
mark = 67 ∷ 85 ∷ 84 ∷ 49 ∷ []

-- 24 + 4k, rounded up to a multiple of 8
abbrev pub amplitude_offset : ℕ → ℕ
amplitude_offset k = (24 + 4 * k + 7) / 8 * 8

abbrev pub file_length : ℕ → ℕ → ℕ
file_length n k = amplitude_offset k + 16 * 2 ^ n

-- the bytes between the list and the amplitudes
abbrev pub gap : ℕ → List ℕ → List ℕ
gap k file = take (amplitude_offset k - (24 + 4 * k)) (drop (24 + 4 * k) file)

-- n is 1 to 9
unfoldable pub size_answer : ℕ → Reply
size_answer n =
    refuse (ltb n 1) (1, 0)
    (refuse (ltb 9 n) (1, 0)
    done)

-- k is at most 64, and the two offsets are 24 and what k gives
unfoldable pub file_offsets_answer : ℕ → List ℕ → Reply
file_offsets_answer k file =
    refuse (ltb 64 k) (10, 0)
    (refuse (not (eqb (word32 file 12) 24)) (10, 0)
    (refuse (not (eqb (word32 file 16) (amplitude_offset k))) (10, 0)
    done))

-- the length is what n and k give, in the header and of the file, and the gap is zero
unfoldable pub length_answer : ℕ → ℕ → List ℕ → Reply
length_answer n k file =
    refuse (not (eqb (word32 file 20) (file_length n k))) (10, 0)
    (refuse (not (eqb (length file) (file_length n k))) (10, 0)
    (refuse (not (all_zero (gap k file))) (10, 0)
    done))

-- n decides first
unfoldable pub fields_answer : ℕ → ℕ → List ℕ → Reply
unfolding size_answer file_offsets_answer length_answer
fields_answer n k file = and_then (size_answer n) (and_then (file_offsets_answer k file) (length_answer n k file))

-- under 24 bytes or at a wrong mark 10; then n and k, the second and third field
unfoldable pub header_answer : List ℕ → Reply
unfolding fields_answer
header_answer file =
    refuse (ltb (length file) 24) (10, 0)
    (refuse (not (begins mark file)) (10, 0)
    (fields_answer (word32 file 4) (word32 file 8) file))

-- the counts of a file's header: noughts where it is refused
abbrev pub n_of : List ℕ → ℕ
n_of file = if_done (header_answer file).0 (word32 file 4) 0

abbrev pub k_of : List ℕ → ℕ
k_of file = if_done (header_answer file).0 (word32 file 8) 0

-- what stands for the header of a file that is refused
abbrev pub no_header : Header
no_header = record { n = 0; k = 0 }

-- what `check_header` answers for every list of bytes
pub record Header·is (file : List ℕ) (r : Result Header Refusal) : Type 0 where
  pub answer-is : paper r ≡ header_answer file
  pub n-is : (given no_header r).n ≡ n_of file
  pub k-is : (given no_header r).k ≡ k_of file

-- the i-th entry of the list
abbrev pub file_entry : List ℕ → ℕ → ℕ
file_entry file i = word32 file (24 + 4 * i)

-- the bits of the j-th component of the state, two to an amplitude, real part first
abbrev pub bits_at : List ℕ → ℕ → ℕ → ℕ
bits_at file k j = word64 file (amplitude_offset k + 8 * j)

-- a file that is long enough for a list of k and a state of n qubits
pub record LongEnough (file : List ℕ) (n k : ℕ) : Type 0 where
  pub n-small : n ≤ 9
  pub k-small : k ≤ 64
  pub reaches : file_length n k ≤ length file

-- the component of a bit pattern: +infinity for a NaN's, which the library refuses by 7 at that cell
unfoldable pub component : ℕ → Float
component b = cond (nan_bits binary64 b) (inf false) (of_bits binary64 b)

-- the j-th component of the state
abbrev pub component_at : List ℕ → ℕ → ℕ → Float
component_at file k j = component (bits_at file k j)
