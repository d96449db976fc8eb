-- What a reader may want to know of this crate's definitions and calls. Assumes nothing.
use mathlib.Core.Path.{◌≡◌, sym, ◌∙◌}
use mathlib.Core.List.{List}
use Prim.Native.Nat.{ℕ}
use lib.Ieee.{Float}
use Rattle.answers.specs.Paper.{Answer}
use Rattle.answers.proofs.Theorems.{paper-one}
use Rattle.cuts.specs.Cut.{CutMatrix}

-- Only one outcome meets the contract of `cut_matrix`.
pub cut-matrix-one : (s : List Float) (n : ℕ) (l : List ℕ) (cap : ℕ) (o : List Float) (r r' : Answer) (end end' : List Float)
    → CutMatrix s n l cap o r end → CutMatrix s n l cap o r' end' → (r ≡ r') × (end ≡ end')
cut-matrix-one s n l cap o r r' end end' a b = (paper-one r r' (a.answer ∙ sym b.answer), a.cells ∙ sym b.cells)
