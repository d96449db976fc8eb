-- What a reader may want to know of this crate's definitions and calls. Assumes nothing.
use mathlib.Core.Path.{◌≡◌, sym, ◌∙◌, ap}
use mathlib.Core.List.{List, []}
use Prim.Native.Nat.{ℕ, ◌*◌, ◌^◌}
use lib.Ieee.{Float}
use Rattle.answers.specs.Paper.{Answer, Reply, paper}
use Rattle.answers.proofs.PaperLaws.{done-new}
use Rattle.answers.proofs.Theorems.{paper-one}
use lib.ListN.{length, take}
use Rattle.complex.specs.Cells.{written}
use Rattle.cuts.specs.Cut.{cut_cell, CutMatrix}
use Rattle.densities.specs.Density.{Density}
use Rattle.density_entries.specs.Entries.{density_cell}
use Rattle.agreement.specs.FromCut.{cut_density_cell}
use Rattle.agreement.proofs.SameDensity.{same-density}
use Rattle.agreement.proofs.AgreementLaws.{density-left, written_same}
use Rattle.agreement.proofs.Theorems.{cut-parted, cut_left}
use Rattle.density_recount.specs.Recount.{DensityFromCut, recount_answer, recounted}
use Rattle.density_recount.proofs.Pages.{front}

-- Only one outcome meets the contract of `density_from_cut`.
pub density-from-cut-one : (m : List Float) (n : ℕ) (l : List ℕ) (cap : ℕ) (o : List Float) (r r' : Answer) (end end' : List Float)
    → DensityFromCut m n l cap o r end → DensityFromCut m n l cap o r' end' → (r ≡ r') × (end ≡ end')
density-from-cut-one m n l cap o r r' end end' a b = (paper-one r r' (a.answer ∙ sym b.answer), a.cells ∙ sym b.cells)

module _ (s : List Float) (n : ℕ) (l : List ℕ) where
  pub pages-agree : (cap : ℕ) (o : List Float) (r : Answer) (m : List Float) → CutMatrix s n l cap o r m → (paper r).0 ≡ 0
      → (cap' : ℕ) (o' w : List Float) (r' : Answer) (d w' : List Float) → Density s n l cap' o' w r' d w' → (paper r').0 ≡ 0
      → (cap'' : ℕ) (r'' : Answer) (d'' : List Float) → DensityFromCut (take (2 * 2 ^ n) m) n l cap'' o' r'' d'' → (paper r'').0 ≡ 0
      → d'' ≡ d
  pages-agree cap o r m c z cap' o' w r' d w' e z' cap'' r'' d'' f z'' =
      let M = take (2 * 2 ^ n) m in
      let a : (recount_answer M n l cap'' (length o')).0 ≡ 0 = sym (ap (λ (x : Reply). x.0) f.answer) ∙ z'' in
      let h : M ≡ written (2 ^ n) (cut_cell s n l) [] = ap (take (2 * 2 ^ n)) (cut_left s n l cap o r m c z) ∙ front (2 ^ n) (cut_cell s n l) o in
      f.cells ∙ sym (done-new (recount_answer M n l cap'' (length o')).0 (recounted n l M o') o' a)
      ∙ ap (λ (x : List Float). recounted n l x o') h
      ∙ written_same (2 ^ length l * 2 ^ length l) (cut_density_cell n l (written (2 ^ n) (cut_cell s n l) [])) (density_cell n l s) o'
      (λ k g. same-density n l (cut-parted s n l cap o r m c z) s [] k)
      ∙ sym (density-left s n l cap' o' w r' d w' e z')
