-- What a reader may want to know of this crate's definitions and calls. Assumes nothing.
use mathlib.Core.Path.{◌≡◌, sym, ◌∙◌}
use mathlib.Core.List.{List}
use Prim.Native.Nat.{ℕ}
use lib.Ieee.{Float}
use Rattle.std.specs.Prelude.{Result}
use Rattle.answers.specs.declared.Refusal.{Refusal}
use Rattle.answers.specs.Paper.{given}
use Rattle.answers.proofs.Theorems.{result-one}
use Rattle.finish.specs.Outcome.{Outcome}

-- Only one outcome meets the contract of `finish_schmidt_values`.
pub finish-schmidt-values-one : (values old : List Float) (r r' : Result ℕ Refusal) (end end' : List Float)
    → Outcome values old r end → Outcome values old r' end' → (r ≡ r') × (end ≡ end')
finish-schmidt-values-one values old r r' end end' a b =
    let k : given 0 r ≡ given 0 r' = a.count ∙ sym b.count in
    (result-one r r' (a.answer ∙ sym b.answer) (λ x y e f. rw (e, f) at k), a.out ∙ sym b.out)
