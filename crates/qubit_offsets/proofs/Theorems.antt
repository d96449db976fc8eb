-- What a reader may want to know of this crate's definitions and calls. Assumes nothing.
use mathlib.Core.Path.{◌≡◌, sym, ap, ◌∙◌}
use mathlib.Core.List.{List}
use Prim.Native.Nat.{ℕ}
use Rattle.std.specs.Prelude.{Result}
use Rattle.answers.specs.declared.Refusal.{Refusal}
use Rattle.answers.specs.Paper.{Answer, given}
use Rattle.answers.proofs.Theorems.{paper-one, result-one}
use Rattle.qubit_offsets.specs.Calls.{RowOffsets, TracedBase}

-- Only one outcome meets the contract of `row_offsets`.
pub row-offsets-one : (l : List ℕ) (n cap : ℕ) (o : List ℕ) (r r' : Answer) (end end' : List ℕ)
    → RowOffsets l n cap o r end → RowOffsets l n cap o r' end' → (r ≡ r') × (end ≡ end')
row-offsets-one l n cap o r r' end end' a b = (paper-one r r' (a.answer ∙ sym b.answer), a.numbers ∙ sym b.numbers)

-- Only one outcome meets the contract of `traced_base`.
pub traced-base-one : (e : ℕ) (l : List ℕ) (n cap : ℕ) (r r' : Result ℕ Refusal) → TracedBase e l n cap r → TracedBase e l n cap r' → r ≡ r'
traced-base-one e l n cap r r' a b =
    result-one r r' (a.answer ∙ sym b.answer) (λ x y p q. sym (ap (given 0) p) ∙ a.base ∙ sym b.base ∙ ap (given 0) q)
