-- What a reader may want to know of this crate's definitions and calls. Assumes nothing.
use mathlib.Core.Path.{◌≡◌, sym, ap, ◌∙◌}
use mathlib.Core.List.{List}
use Prim.Native.Nat.{ℕ}
use lib.Ieee.{Float}
use Rattle.std.specs.Prelude.{Result}
use Rattle.answers.specs.declared.Refusal.{Refusal}
use Rattle.answers.specs.Paper.{Reply, paper, given}
use Rattle.answers.proofs.Theorems.{result-one}
use Rattle.qr.specs.Call.{Factorized}

-- Only one outcome meets the contract of `factorize_gram_schmidt`.
pub factorize-gram-schmidt-one : (a : List Float) (rows cols : ℕ) (q r s : List Float) (x y : Result ℕ Refusal) (q₁ r₁ s₁ q₂ r₂ s₂ : List Float)
    → Factorized a rows cols q r s x q₁ r₁ s₁ → Factorized a rows cols q r s y q₂ r₂ s₂
    → (x ≡ y) × (q₁ ≡ q₂) × (r₁ ≡ r₂) × (s₁ ≡ s₂)
factorize-gram-schmidt-one a rows cols q r s x y q₁ r₁ s₁ q₂ r₂ s₂ f g =
    let e : paper x ≡ paper y = f.answer-is ∙ sym g.answer-is in
    let n : (paper x).0 ≡ (paper y).0 = ap (λ (z : Reply). z.0) e in
    let k : given 0 x ≡ given 0 y = rw n at f.rank_is ∙ sym g.rank_is in
    (result-one x y e (λ u v i j. rw (i, j) at k), rw n at f.q-is ∙ sym g.q-is, rw n at f.r-is ∙ sym g.r-is, rw n at f.scratch-is ∙ sym g.scratch-is)
