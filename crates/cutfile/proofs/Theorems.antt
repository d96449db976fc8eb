-- What a reader may want to know of this crate's definitions and calls. Assumes nothing.
use mathlib.Core.Path.{◌≡◌, sym, ap, ◌∙◌}
use mathlib.Core.List.{List}
use Prim.Native.Nat.{ℕ}
use Rattle.std.specs.Prelude.{Result}
use Rattle.answers.specs.declared.Refusal.{Refusal}
use Rattle.answers.specs.Paper.{given}
use Rattle.answers.proofs.Theorems.{result-one}
use Rattle.cutfile.specs.declared.Header.{Header}
use Rattle.cutfile.specs.Layout.{no_header, Header·is}

-- Only one outcome meets the contract of `check_header`.
pub check-header-one : (file : List ℕ) (r s : Result Header Refusal) → Header·is file r → Header·is file s → r ≡ s
check-header-one file r s p q =
    result-one r s (p.answer-is ∙ sym q.answer-is)
    (λ x y e f.
    let n : x.n ≡ y.n = sym (ap (λ (t : Result Header Refusal). (given no_header t).n) e) ∙ p.n-is ∙ sym q.n-is ∙ ap (λ (t : Result Header Refusal). (given no_header t).n) f in
    let k : x.k ≡ y.k = sym (ap (λ (t : Result Header Refusal). (given no_header t).k) e) ∙ p.k-is ∙ sym q.k-is ∙ ap (λ (t : Result Header Refusal). (given no_header t).k) f in
    λ i. record { n = n i; k = k i })
