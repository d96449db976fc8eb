-- What the program's proofs share. Assumes nothing.
use mathlib.Core.Path.{◌≡◌, sym, ap, ◌∙◌}
use mathlib.Core.List.{List, [], ◌∷◌, ◌++◌}
use Prim.Native.Nat.{ℕ, suc}
use native.Mathlib.Omega.{arith}
use lib.ListN.{length, length-append}
use Rattle.answers.specs.Paper.{Done, Reply}
use Rattle.answers.proofs.PaperLaws.{done-new}
use Rattle.lot_tallies.specs.declared.Sheet.{Sheet}
use Rattle.lot_tallies.specs.Tallies.{Single, count_is, rank_is, sheet_of, sheet_numbers}
use Rattle.lot_tallies.proofs.TallyLaws.{length-each}
use Rattle.lots.specs.Lot.{lot_header, results, Lot}

-- a sheet has 32 numbers
numbers-long : (s : Sheet) → length s.answers ≡ 11 → length s.ranks ≡ 16 → length (sheet_numbers s) ≡ 32
unfolding sheet_numbers
numbers-long s m n =
    let last : List ℕ = s.smallest ∷ s.smallest_file ∷ s.largest ∷ s.largest_file ∷ s.sum ∷ [] in
    omega (arith, length-append (s.answers ++ s.ranks) last, length-append s.answers s.ranks)

sheet-long : (rs : List Single) → length (sheet_numbers (sheet_of rs)) ≡ 32
unfolding sheet_of
sheet-long rs = numbers-long (sheet_of rs) (length-each 11 (λ k. count_is k rs)) (length-each 16 (λ r. rank_is (suc r) rs))

pub made-long : (lot old new : List ℕ) → Lot lot old Done new → length new ≡ 32
made-long lot old new is =
    let z : (lot_header lot).0 ≡ 0 = ap (λ (r : Reply). r.0) (sym is.answer) in
    ap length (is.sheet-is ∙ sym (done-new (lot_header lot).0 (sheet_numbers (sheet_of (results lot))) old z))
    ∙ sheet-long (results lot)

-- the counts of a lot that is not refused stand in it
pub made-header : (lot old new : List ℕ) → Lot lot old Done new → (lot_header lot).0 ≡ 0
made-header lot old new is = ap (λ (r : Reply). r.0) (sym is.answer)
