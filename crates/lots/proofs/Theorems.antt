-- What a reader may want to know of a lot. Assumes nothing.
use mathlib.Core.Path.{◌≡◌, sym, ap, ◌∙◌}
use mathlib.Core.Logic.{◌⊎◌, ⊎_elim}
use mathlib.Core.List.{List}
use Prim.Native.Nat.{ℕ, ◌+◌, ◌*◌, ◌≤◌, ◌<◌}
use native.Mathlib.Omega.{arith}
use lib.ListN.{length, get_or}
use Rattle.answers.specs.Paper.{Answer, Reply, paper}
use Rattle.answers.proofs.PaperLaws.{done-new, done-old}
use Rattle.answers.proofs.Theorems.{paper-one}
use Rattle.cutfile.specs.Bytes.{word32}
use Rattle.lot_verdicts.specs.Verdict.{verdict_of}
use Rattle.lot_tallies.specs.Tallies.{sheet_of, sheet_numbers, add_up}
use Rattle.lot_tallies.proofs.Theorems.{answers-add-up, ranks-add-up}
use Rattle.lots.specs.Lot.{lot_header, file_of, results, Lot}
use Rattle.lots.proofs.LotLaws.{header-short, header-many, header-cut, header-good, results-length, results-fair, results_at}

-- Only one outcome meets the contract of `lot_sheet`: its answer and every number of the sheet.
pub lot-sheet-one : (lot sheet : List ℕ) (r s : Answer) (a b : List ℕ) → Lot lot sheet r a → Lot lot sheet s b → (r ≡ s) × (a ≡ b)
lot-sheet-one lot sheet r s a b x y = (paper-one r s (x.answer ∙ sym y.answer), x.sheet-is ∙ sym y.sheet-is)

-- A lot whose count or lengths are cut short, or whose count is over 1,000, is answered by 16, and the sheet is as it was.
pub lot-sixteen : (lot sheet : List ℕ) (r : Answer) (a : List ℕ) → Lot lot sheet r a
    → (length lot < 4) ⊎ ((4 ≤ length lot) × ((1000 < word32 lot 0) ⊎ ((word32 lot 0 ≤ 1000) × (length lot < 4 + 4 * word32 lot 0))))
    → ((paper r).0 ≡ 16) × (a ≡ sheet)
lot-sixteen lot sheet r a x h =
    let e : ◌≡◌ {A = Reply} (16, 0) (lot_header lot)
    = ⊎_elim
    (header-short lot)
    (λ (q : (4 ≤ length lot) × ((1000 < word32 lot 0) ⊎ ((word32 lot 0 ≤ 1000) × (length lot < 4 + 4 * word32 lot 0)))).
    ⊎_elim (header-many lot q.0) (λ (p : (word32 lot 0 ≤ 1000) × (length lot < 4 + 4 * word32 lot 0)). header-cut lot q.0 p.0 p.1) q.1) h in
    let n : (lot_header lot).0 ≡ 16 = ap (λ (y : Reply). y.0) (sym e) in
    (ap (λ (y : Reply). y.0) x.answer ∙ n, x.sheet-is ∙ sym (done-old (lot_header lot).0 (sheet_numbers (sheet_of (results lot))) sheet (λ z. omega arith)))

-- Every other lot is answered by 0, and the sheet is that of its single results, refused files among them.
pub lot-accepted : (lot sheet : List ℕ) (r : Answer) (a : List ℕ) → Lot lot sheet r a → 4 ≤ length lot → word32 lot 0 ≤ 1000 → 4 + 4 * word32 lot 0 ≤ length lot
    → ((paper r).0 ≡ 0) × (a ≡ sheet_numbers (sheet_of (results lot)))
lot-accepted lot sheet r a x h m l =
    let n : (lot_header lot).0 ≡ 0 = ap (λ (y : Reply). y.0) (sym (header-good lot h m l)) in
    (ap (λ (y : Reply). y.0) x.answer ∙ n, x.sheet-is ∙ sym (done-new (lot_header lot).0 (sheet_numbers (sheet_of (results lot))) sheet n))

-- There is one result for each file that the header counts, whatever the files are: a refused file does not end the lot.
pub every-file : (lot : List ℕ) → length (results lot) ≡ word32 lot 0
every-file lot = results-length lot (word32 lot 0)

-- The i-th result is that of the i-th file alone.
pub result-of : (lot : List ℕ) (i : ℕ) → i < word32 lot 0 → get_or (results lot) i (0, 0) ≡ verdict_of (file_of lot i)
result-of lot i h = results_at lot (word32 lot 0) i h

-- No earlier file influences a later one: two lots with the same i-th file have the same i-th result, whatever stood before.
pub alone : (lot other : List ℕ) (i : ℕ) → i < word32 lot 0 → i < word32 other 0 → file_of lot i ≡ file_of other i
    → get_or (results lot) i (0, 0) ≡ get_or (results other) i (0, 0)
alone lot other i h k e = result-of lot i h ∙ ap verdict_of e ∙ sym (result-of other i k)

-- The counts of the answers add up to the count of files.
pub files-add-up : (lot : List ℕ) → add_up (sheet_of (results lot)).answers ≡ word32 lot 0
files-add-up lot = answers-add-up (results lot) (results-fair lot (word32 lot 0)) ∙ every-file lot

-- The counts of the ranks add up to the count of answer 0.
pub accepted-add-up : (lot : List ℕ) → add_up (sheet_of (results lot)).ranks ≡ get_or (sheet_of (results lot)).answers 0 0
accepted-add-up lot = ranks-add-up (results lot) (results-fair lot (word32 lot 0))
