-- Laws of a lot: its header, how a file is read, and what one more file does. Assumes nothing.
use mathlib.Core.Path.{◌≡◌, refl, sym, ap, ap₂, subst, ◌∙◌}
use mathlib.Core.Logic.{⊎_elim}
use mathlib.Core.List.{List, [], ◌∷◌, ◌++◌}
use Prim.Native.Nat.{ℕ, zero, suc, ◌+◌, ◌-◌, ◌*◌, ◌≤◌, ◌<◌, min}
use native.Mathlib.Nat.{eq-or-lt_of_le, min-le_left, min-le_right}
use native.Mathlib.Numerals.{add-one}
use native.Mathlib.Omega.{arith}
use lib.Dec.{ltb}
use lib.ListN.{length, get_or, set, take, drop, length-append, length-take, length-drop, length-set, get_or-append}
use lib.Seq.{get_or_at, get_or-take, get_or-drop, take-suc, take-suc-set, take-length}
use borrow.Author.Tests.{lt-ltb, le-ltb, ltb-false}
use Rattle.std.proofs.Common.{Result, Ok, Err}
use Rattle.std.specs.Result.{result_unwrap_or}
use Rattle.answers.specs.declared.Refusal.{Refusal}
use Rattle.answers.specs.Paper.{Reply, given, done, refuse}
use Rattle.answers.proofs.PaperLaws.{refuse-done}
use Rattle.cutfile.specs.Bytes.{word32}
use Rattle.lot_verdicts.specs.Verdict.{verdict_of}
use Rattle.lot_verdicts.proofs.Theorems.{verdict-number, verdict-accepted, verdict-refused, verdict-front}
use Rattle.lot_tallies.specs.declared.Sheet.{Sheet}
use Rattle.lot_tallies.specs.Tallies.{Single, Fair, AllFair, Tallied, Adds, sheet_of}
use Rattle.lot_tallies.proofs.SheetLaws.{fair-none, fair-more}
use Rattle.lots.specs.Lot.{lot_header, size_at, start_of, file_from, file_of, results_to, results, Read, AddsFile}

-- ---- the header

module _ (lot : List ℕ) where
  pub header-short : length lot < 4 → ◌≡◌ {A = Reply} (16, 0) (lot_header lot)
  unfolding lot_header
  header-short h = rw (lt-ltb (length lot) 4 h) refl

  pub header-many : 4 ≤ length lot → 1000 < word32 lot 0 → ◌≡◌ {A = Reply} (16, 0) (lot_header lot)
  unfolding lot_header
  header-many h m = rw (le-ltb (length lot) 4 h, lt-ltb 1000 (word32 lot 0) m) refl

  pub header-cut : 4 ≤ length lot → word32 lot 0 ≤ 1000 → length lot < 4 + 4 * word32 lot 0 → ◌≡◌ {A = Reply} (16, 0) (lot_header lot)
  unfolding lot_header
  header-cut h m l = rw (le-ltb (length lot) 4 h, le-ltb 1000 (word32 lot 0) m, lt-ltb (length lot) (4 + 4 * word32 lot 0) l) refl

  pub header-good : 4 ≤ length lot → word32 lot 0 ≤ 1000 → 4 + 4 * word32 lot 0 ≤ length lot → ◌≡◌ {A = Reply} (0, 0) (lot_header lot)
  unfolding lot_header
  header-good h m l = rw (le-ltb (length lot) 4 h, le-ltb 1000 (word32 lot 0) m, le-ltb (length lot) (4 + 4 * word32 lot 0) l) refl

-- ---- what is read of a file

pub piece-length : (lot : List ℕ) (from size : ℕ) → length (take 8480 (file_from lot from size)) ≡ min 8480 (min size (length lot - from))
piece-length lot from size =
    length-take 8480 (file_from lot from size) ∙ ap (min 8480) (length-take size (drop from lot) ∙ ap (min size) (length-drop from lot))

module _ (lot : List ℕ) (from size : ℕ) where
  -- the bytes of the piece are the lot's
  piece-at : (i : ℕ) → i < length (take 8480 (file_from lot from size)) → get_or (take 8480 (file_from lot from size)) i 0 ≡ get_or lot (from + i) 0
  piece-at i h =
      let l = piece-length lot from size in
      let a : i < 8480 = omega (arith, h, l, min-le_left 8480 (min size (length lot - from))) in
      let b : i < size = omega (arith, h, l, min-le_right 8480 (min size (length lot - from)), min-le_left size (length lot - from)) in
      get_or-take 8480 (file_from lot from size) i 0 a ∙ get_or-take size (drop from lot) i 0 b ∙ get_or-drop from lot i 0

  piece-few : (got : ℕ) → got ≡ min 8480 (min size (length lot - from)) → got ≤ 8480
  piece-few got e = omega (arith, min-le_left 8480 (min size (length lot - from)))

  -- the loop: the first i bytes of the piece stand at the front of the room
  pub record Copied (got : ℕ) (room : List ℕ) (i : ℕ) : Type 0 where
    pub count : got ≡ min 8480 (min size (length lot - from))
    pub within : i ≤ got
    pub long : length room ≡ 8480
    pub front : take i room ≡ take i (take 8480 (file_from lot from size))

  pub copy-begins : (got : ℕ) (room : List ℕ) → length room ≡ 8480 → got ≡ min 8480 (min size (length lot - from)) → Copied got room 0
  copy-begins got room l e = record { count = e; within = omega arith; long = l; front = refl }

  pub copy-inside : (got i : ℕ) (room : List ℕ) → Copied got room i → i < got → from + i < length lot
  copy-inside got i room is h =
      omega (arith, is.count, min-le_right 8480 (min size (length lot - from)), min-le_right size (length lot - from))

  pub copy-room : (got i : ℕ) (room : List ℕ) → Copied got room i → i < got → i < length room
  copy-room got i room is h = omega (arith, piece-few got is.count, is.long)

  pub copy_more : (got i : ℕ) (room : List ℕ) → Copied got room i → i < got → Copied got (set room i (get_or lot (from + i) 0)) (i + 1)
  copy_more got i room is h =
      let p = take 8480 (file_from lot from size) in
      let n : i < length p = omega (arith, piece-length lot from size, is.count) in
      record {
        count = is.count;
        within = omega arith;
        long = length-set room i (get_or lot (from + i) 0) ∙ is.long;
        front =
            ap (λ (k : ℕ). take k (set room i (get_or lot (from + i) 0))) (add-one i)
            ∙ take-suc-set room i (get_or lot (from + i) 0) (omega (arith, piece-few got is.count, is.long))
            ∙ ap₂ (λ (a : List ℕ) (b : ℕ). a ++ b ∷ []) is.front (sym (piece-at i n))
            ∙ sym (take-suc p i 0 n)
            ∙ ap (λ (k : ℕ). take k p) (sym (add-one i));
      }

  pub copy-ends : (got i : ℕ) (room : List ℕ) → Copied got room i → got ≤ i → Read lot from size got room
  copy-ends got i room is k =
      let p = take 8480 (file_from lot from size) in
      let l : got ≡ length p = is.count ∙ sym (piece-length lot from size) in
      let s : i ≡ got = omega (arith, is.within) in
      record {
        count = l;
        front = subst (λ (n : ℕ). take n room ≡ take n p) s is.front ∙ ap (λ (n : ℕ). take n p) l ∙ take-length p;
      }

-- only what was read is handed on
pub read-few : (lot : List ℕ) (from size got : ℕ) (room : List ℕ) → Read lot from size got room → got ≤ 8480
read-few lot from size got room is = omega (arith, is.count, piece-length lot from size, min-le_left 8480 (min size (length lot - from)))

pub read_count : (lot : List ℕ) (from size got : ℕ) (room : List ℕ) → Read lot from size got room → got ≡ length (take got room)
read_count lot from size got room is = is.count ∙ ap length (sym is.front)

-- ---- the results

pub verdict-fair : (file : List ℕ) → Fair (verdict_of file).0 (verdict_of file).1
verdict-fair file = record { few = verdict-number file; accepted = verdict-accepted file; refused = verdict-refused file }

pub results-length : (lot : List ℕ) (m : ℕ) → length (results_to lot m) ≡ m
unfolding results_to
results-length lot zero = refl
results-length lot (suc m) = length-append (results_to lot m) (verdict_of (file_of lot m) ∷ []) ∙ omega (arith, results-length lot m)

pub results-fair : (lot : List ℕ) (m : ℕ) → AllFair (results_to lot m)
unfolding results_to
results-fair lot zero = fair-none
results-fair lot (suc m) = fair-more (results_to lot m) (verdict_of (file_of lot m)).0 (verdict_of (file_of lot m)).1 (results-fair lot m) (verdict-fair (file_of lot m))

pub results_at : (lot : List ℕ) (m i : ℕ) → i < m → get_or (results_to lot m) i (0, 0) ≡ verdict_of (file_of lot i)
unfolding results_to
results_at lot zero i h = absurd (omega arith)
results_at lot (suc m) i h =
    ⊎_elim
    (λ (e : i ≡ m). rw e (get_or_at (results_to lot m) (verdict_of (file_of lot m)) [] (0, 0) m (results-length lot m)))
    (λ (e : i < m). get_or-append (results_to lot m) (verdict_of (file_of lot m) ∷ []) (0, 0) i (omega (arith, results-length lot m)) ∙ results_at lot m i e)
    (eq-or-lt_of_le (omega arith))

-- ---- the step

pub single-fair : (file : List ℕ) (number rank : ℕ) → number ≡ (verdict_of file).0 → rank ≡ (verdict_of file).1 → Fair number rank
single-fair file number rank e f = rw (e, f) (verdict-fair file)

pub unwrapped : (r : Result ℕ Refusal) → result_unwrap_or r 0 ≡ given 0 r
unwrapped (Ok k) = refl
unwrapped (Err e) = refl

pub adds-file : (sheet : Sheet) (files : ℕ) (file : List ℕ) (number rank : ℕ) (r : Sheet) → number ≡ (verdict_of file).0 → rank ≡ (verdict_of file).1
    → Adds sheet files number rank r → AddsFile sheet files file r
adds-file sheet files file number rank r e f a rs is n = a rs is n ∙ ap₂ (λ (x y : ℕ). sheet_of (rs ++ (x, y) ∷ [])) e f

pub file-tallied : (sheet : Sheet) (files : ℕ) (file : List ℕ) (r : Sheet) → Tallied sheet files → AddsFile sheet files file r → Tallied r (files + 1)
file-tallied sheet files file r t a =
    let rs = t.results in
    record {
      results = rs ++ verdict_of file ∷ [];
      count = length-append rs (verdict_of file ∷ []) ∙ omega (arith, t.count);
      fair = fair-more rs (verdict_of file).0 (verdict_of file).1 t.fair (verdict-fair file);
      sheet-is = a rs t.sheet-is t.count;
    }

-- ---- the loop: the first i files are tallied, and the next begins at `from`

pub record Reached (lot : List ℕ) (i from : ℕ) (sheet : Sheet) : Type 0 where
  pub place : from ≡ start_of lot i
  pub near : from ≤ 4004 + 4294967296 * i
  pub sheet-is : sheet ≡ sheet_of (results_to lot i)

module _ (lot : List ℕ) where
  pub reach-begins : (from : ℕ) (sheet : Sheet) → word32 lot 0 ≤ 1000 → from ≡ 4 + 4 * word32 lot 0 → sheet ≡ sheet_of [] → Reached lot 0 from sheet
  unfolding start_of results_to
  reach-begins from sheet h e f = record { place = e; near = omega arith; sheet-is = f }

  module _ (i from : ℕ) (sheet : Sheet) (is : Reached lot i from sheet) where
    pub reach-tallied : Tallied sheet i
    reach-tallied = record { results = results_to lot i; count = results-length lot i; fair = results-fair lot i; sheet-is = is.sheet-is }

    pub reach-more : (size got : ℕ) (room : List ℕ) (r : Sheet) → size ≡ size_at lot i → size < 4294967296 → Read lot from size got room
        → AddsFile sheet i (take got room) r → Reached lot (i + 1) (from + size) r
    unfolding start_of results_to
    reach-more size got room r e h d a =
        let file : verdict_of (take got room) ≡ verdict_of (file_of lot i)
        = ap verdict_of d.front ∙ verdict-front (file_from lot from size) ∙ ap₂ (λ (x y : ℕ). verdict_of (file_from lot x y)) is.place e in
        rw (add-one i)
        (record {
          place = ap₂ (λ (x y : ℕ). x + y) is.place e;
          near = omega (arith, is.near);
          sheet-is = a (results_to lot i) is.sheet-is (results-length lot i) ∙ ap (λ (x : Single). sheet_of (results_to lot i ++ x ∷ [])) file;
        })

pub reach-ends : (lot : List ℕ) (i from : ℕ) (sheet : Sheet) (count : ℕ) → Reached lot i from sheet → i ≡ count → count ≡ word32 lot 0 → sheet ≡ sheet_of (results lot)
reach-ends lot i from sheet count is e f = is.sheet-is ∙ ap (λ (k : ℕ). sheet_of (results_to lot k)) (e ∙ f)

-- ---- the call

pub header-fits : (lot : List ℕ) → (lot_header lot).0 ≡ 0 → (4 ≤ length lot) × (word32 lot 0 ≤ 1000) × (4 + 4 * word32 lot 0 ≤ length lot)
unfolding lot_header
header-fits lot e =
    let last = refuse (ltb (length lot) (4 + 4 * word32 lot 0)) (16, 0) done in
    let a = refuse-done (ltb (length lot) 4) 15 0 (refuse (ltb 1000 (word32 lot 0)) (16, 0) last) e in
    let b = refuse-done (ltb 1000 (word32 lot 0)) 15 0 last a.1 in
    let c = refuse-done (ltb (length lot) (4 + 4 * word32 lot 0)) 15 0 done b.1 in
    (ltb-false (length lot) 4 a.0, ltb-false 1000 (word32 lot 0) b.0, ltb-false (length lot) (4 + 4 * word32 lot 0) c.0)
