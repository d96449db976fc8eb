-- What a reader may want to know of a single result. Assumes nothing.
use mathlib.Core.Path.{◌≡◌, sym, ap, ap₂, ◌∙◌}
use mathlib.Core.Logic.{⊎_elim}
use mathlib.Core.List.{List}
use Prim.Native.Nat.{ℕ, ◌≤◌, ◌<◌}
use native.Mathlib.Omega.{arith}
use lib.ListN.{length, take}
use lib.Seq.{take_all}
use Rattle.answers.specs.Paper.{Reply}
use Rattle.answers.proofs.PaperLaws.{done-new, done-old}
use Rattle.whole_numbers.proofs.WholeLaws.{le-or-lt}
use Rattle.cutfile.proofs.Longer.{longest}
use Rattle.cutfile_result.specs.Result.{file_reply, file_values}
use Rattle.cutfile_result.proofs.Theorems.{file-number, file-rank, longer-reply}
use Rattle.lot_verdicts.specs.Verdict.{verdict_of}

-- A single result's number is one of 0 to 10.
pub verdict-number : (file : List ℕ) → (verdict_of file).0 ≤ 10
unfolding verdict_of
verdict-number file = file-number file

-- An accepted file's rank is 1 to 16.
pub verdict-accepted : (file : List ℕ) → (verdict_of file).0 ≡ 0 → (1 ≤ (verdict_of file).1) × ((verdict_of file).1 ≤ 16)
unfolding verdict_of
verdict-accepted file e =
    let k = done-new (file_reply file).0 (length (file_values file)) 0 e in
    let h = file-rank file e in
    (omega (arith, h.0, k), omega (arith, h.1, k))

-- A refused file's rank is 0.
pub verdict-refused : (file : List ℕ) → ((verdict_of file).0 ≡ 0 → ⊥) → (verdict_of file).1 ≡ 0
unfolding verdict_of
verdict-refused file h = sym (done-old (file_reply file).0 (length (file_values file)) 0 h)

verdict-longer : (m : ℕ) (file : List ℕ) → longest < m → m ≤ length file → verdict_of (take m file) ≡ verdict_of file
unfolding verdict_of
verdict-longer m file h l =
    let long = longer-reply m file h l in
    let stop : (file_reply (take m file)).0 ≡ 0 → ⊥ = λ e. long.1 (sym (ap (λ (r : Reply). r.0) long.0) ∙ e) in
    ap₂ (λ (n k : ℕ). (n, k)) (ap (λ (r : Reply). r.0) long.0)
    (sym (done-old (file_reply (take m file)).0 (length (file_values (take m file))) 0 stop) ∙ done-old (file_reply file).0 (length (file_values file)) 0 long.1)

-- The first 8,480 bytes of a file decide.
pub verdict-front : (file : List ℕ) → verdict_of (take 8480 file) ≡ verdict_of file
verdict-front file =
    ⊎_elim
    (λ (h : length file ≤ 8480). ap verdict_of (take_all 8480 file h))
    (λ (h : 8480 < length file). verdict-longer 8480 file (omega arith) (omega arith))
    (le-or-lt (length file) 8480)
