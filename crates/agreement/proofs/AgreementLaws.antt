-- Laws of what `specs/Agreement.antt` defines. Assumes nothing.
use mathlib.Core.Path.{◌≡◌, refl, sym, ap, ◌∙◌}
use mathlib.Core.List.{List, ◌++◌}
use Prim.Native.Nat.{ℕ, zero, suc, ◌*◌, ◌<◌}
use lib.Ieee.{Float}
use lib.ListN.{length, drop}
use Rattle.answers.specs.Paper.{Answer, Reply, paper, if_done}
use Rattle.answers.proofs.PaperLaws.{done-new}
use Rattle.complex.specs.declared.Complex.{Complex}
use Rattle.complex.specs.Cells.{written}
use Rattle.complex.proofs.CellLaws.{cells_same}
use Rattle.densities.specs.Density.{density_answer, density_list, Density}

pub written_same : (m : ℕ) (f g : ℕ → Complex) (o : List Float) → ((k : ℕ) → k < m → f k ≡ g k) → written m f o ≡ written m g o
unfolding written
written_same m f g o h = ap (λ (x : List Float). x ++ drop (2 * m) o) (cells_same m f g h)

-- what a refusal leaves needs no look at what an acceptance would
pub done-same : {A : Type 0} (x : ℕ) (a b old : A) → (x ≡ 0 → a ≡ b) → if_done x a old ≡ if_done x b old
done-same zero a b old h = h refl
done-same (suc x) a b old h = refl

-- a density that was answered 0: the matrix that it left
pub density-left : (s : List Float) (n : ℕ) (l : List ℕ) (cap : ℕ) (o w : List Float) (r : Answer) (d w' : List Float) → Density s n l cap o w r d w'
    → (paper r).0 ≡ 0 → d ≡ density_list n l s o
density-left s n l cap o w r d w' e z =
    let a : (density_answer s n l cap (length o) (length w)).0 ≡ 0 = sym (ap (λ (x : Reply). x.0) e.answer) ∙ z in
    e.matrix ∙ sym (done-new (density_answer s n l cap (length o) (length w)).0 (density_list n l s o) o a)
