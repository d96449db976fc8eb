-- What a reader may want to know of this crate's definitions and calls. Assumes nothing.
use mathlib.Core.Path.{◌≡◌, sym, ◌∙◌}
use mathlib.Core.List.{List}
use Prim.Native.Nat.{ℕ}
use Rattle.answers.specs.Paper.{Answer}
use Rattle.answers.proofs.Theorems.{paper-one}
use Rattle.cut_sides.specs.Sides.{SmallerSide, side_part}

-- Only one outcome meets the contract of `smaller_side`.
pub smaller-side-one : (l : List ℕ) (n cap : ℕ) (o : List ℕ) (r r' : Answer) (end end' : List ℕ)
    → SmallerSide l n cap o r end → SmallerSide l n cap o r' end' → (r ≡ r') × (end ≡ end')
smaller-side-one l n cap o r r' end end' a b = (paper-one r r' (a.answer ∙ sym b.answer), a.numbers ∙ sym b.numbers)

-- Only one part meets the contract of `side_part`.
pub side-part-one : (l : List ℕ) (n cap : ℕ) (o p p' : List ℕ) → p ≡ side_part l n cap o → p' ≡ side_part l n cap o → p ≡ p'
side-part-one l n cap o p p' a b = a ∙ sym b
