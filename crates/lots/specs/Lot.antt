-- A lot, for every list of bytes: its header, its files, their single results, and the sheet over these. Definitions only.
use Rattle.std.specs.Prelude.{◌≡◌, List, [], ◌∷◌, ◌++◌, ℕ, zero, suc, ◌+◌, ◌*◌, ltb, length, take, drop}
use Rattle.answers.specs.Paper.{Answer, Reply, paper, done, refuse, if_done}
use Rattle.cutfile.specs.Bytes.{word32}
use Rattle.lot_verdicts.specs.Verdict.{verdict_of}
use Rattle.lot_tallies.specs.declared.Sheet.{Sheet}
use Rattle.lot_tallies.specs.Tallies.{Single, sheet_of, sheet_numbers}

-- 16 where the count is cut short, is over 1,000, or a length is cut short
unfoldable pub lot_header : List ℕ → Reply
lot_header lot =
    refuse (ltb (length lot) 4) (16, 0)
    (refuse (ltb 1000 (word32 lot 0)) (16, 0)
    (refuse (ltb (length lot) (4 + 4 * word32 lot 0)) (16, 0)
    done))

-- the length of file i, as the header has it
abbrev pub size_at : List ℕ → ℕ → ℕ
size_at lot i = word32 lot (4 + 4 * i)

-- where file i begins: behind the header and the files before it, each by its whole length
unfoldable pub start_of : List ℕ → ℕ → ℕ
start_of lot zero = 4 + 4 * word32 lot 0
start_of lot (suc i) = start_of lot i + size_at lot i

-- a file of that size from a place on: its bytes, as far as the lot goes
abbrev pub file_from : List ℕ → ℕ → ℕ → List ℕ
file_from lot from size = take size (drop from lot)

-- file i
abbrev pub file_of : List ℕ → ℕ → List ℕ
file_of lot i = file_from lot (start_of lot i) (size_at lot i)

-- the single results of the m first files
unfoldable pub results_to : List ℕ → ℕ → List Single
unfolding start_of
results_to lot zero = []
results_to lot (suc m) = results_to lot m ++ verdict_of (file_of lot m) ∷ []

-- the single results of a lot
abbrev pub results : List ℕ → List Single
results lot = results_to lot (word32 lot 0)

-- the answer, and the sheet: that of the single results, or as it was
pub record Lot (lot sheet : List ℕ) (r : Answer) (sheet' : List ℕ) : Type 0 where
  pub answer : paper r ≡ lot_header lot
  pub sheet-is : sheet' ≡ if_done (lot_header lot).0 (sheet_numbers (sheet_of (results lot))) sheet

-- ---- the steps

-- what was read of a file: r bytes at the front of the room, the file's first 8,480
pub record Read (lot : List ℕ) (from size r : ℕ) (room' : List ℕ) : Type 0 where
  pub count : r ≡ length (take 8480 (file_from lot from size))
  pub front : take r room' ≡ take 8480 (file_from lot from size)

-- one more file was added: the sheet of any results so far became that of these and the file's
abbrev pub AddsFile : Sheet → ℕ → List ℕ → Sheet → Type 0
AddsFile sheet files file r = (rs : List Single) → sheet ≡ sheet_of rs → length rs ≡ files → r ≡ sheet_of (rs ++ verdict_of file ∷ [])
