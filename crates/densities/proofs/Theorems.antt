-- What a reader may want to know of this crate's definitions and calls. Assumes nothing.
use mathlib.Core.Path.{◌≡◌, sym, ◌∙◌}
use mathlib.Core.List.{List}
use Prim.Native.Nat.{ℕ}
use lib.Ieee.{Float}
use Rattle.answers.specs.Paper.{Answer}
use Rattle.answers.proofs.Theorems.{paper-one}
use Rattle.density_entries.specs.Squares.{mirrored}
use Rattle.densities.specs.Density.{Density}
use Rattle.densities.specs.Square.{square_answer, InPlace}
use Rattle.densities.proofs.SquareLaws.{place-one}

-- Only one outcome meets the contract of `dense_reduced_density`.
pub dense-reduced-density-one : (s : List Float) (n : ℕ) (l : List ℕ) (cap : ℕ) (o w : List Float) (r r' : Answer) (out out' scratch scratch' : List Float)
    → Density s n l cap o w r out scratch → Density s n l cap o w r' out' scratch' → (r ≡ r') × (out ≡ out') × (scratch ≡ scratch')
dense-reduced-density-one s n l cap o w r r' out out' scratch scratch' a b =
    (paper-one r r' (a.answer ∙ sym b.answer), a.matrix ∙ sym b.matrix, a.cleared ∙ sym b.cleared)

-- Only one outcome meets the contract of `mirror_lower_triangle`.
pub mirror-lower-triangle-one : (s : List Float) (dim : ℕ) (r r' : Answer) (end end' : List Float)
    → InPlace (square_answer s dim) (mirrored s dim) s r end → InPlace (square_answer s dim) (mirrored s dim) s r' end' → (r ≡ r') × (end ≡ end')
mirror-lower-triangle-one s dim r r' end end' p q = place-one (square_answer s dim) (mirrored s dim) s r r' end end' p q
