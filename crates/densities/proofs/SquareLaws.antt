-- The contract of a call that works on its own input. Assumes nothing.
use mathlib.Core.Path.{◌≡◌, sym, ◌∙◌}
use mathlib.Core.List.{List}
use lib.Ieee.{Float}
use Rattle.answers.specs.Paper.{Answer, Reply}
use Rattle.answers.proofs.Theorems.{paper-one}
use Rattle.densities.specs.Square.{InPlace}

-- ONE OUTCOME: two ends of a call that both meet such a contract are the same
pub place-one : (a : Reply) (new old : List Float) (r r' : Answer) (end end' : List Float)
    → InPlace a new old r end → InPlace a new old r' end' → (r ≡ r') × (end ≡ end')
place-one a new old r r' end end' p q = (paper-one r r' (p.answer ∙ sym q.answer), p.matrix ∙ sym q.matrix)
