-- What a reader may want to know of this crate's definitions and calls. Assumes nothing.
use mathlib.Core.Path.{◌≡◌, sym, ◌∙◌}
use mathlib.Core.List.{List}
use Prim.Native.Nat.{ℕ}
use lib.Ieee.{Float}
use Rattle.std.specs.Prelude.{Result}
use Rattle.answers.specs.declared.Refusal.{Refusal}
use Rattle.answers.specs.Paper.{paper, given}
use Rattle.factored.specs.declared.Counted.{Counted}
use Rattle.factored.specs.Factored.{no_count}
use Rattle.sweeps.specs.declared.Sweeps.{Sweeps}
use Rattle.sweeps.specs.Sweeping.{no_sweeps}
use Rattle.factored.proofs.Laws.{factored-one, counted-one}
use Rattle.spectra.specs.Density.{DensityValues}
use Rattle.spectra.specs.Outcomes.{Eigenvalues}
use Rattle.factored.proofs.Laws.{kept-ceiling}
use Rattle.sweeps.proofs.Ceiling.{Ceiling}
use Rattle.spectra.proofs.OutcomeLaws.{eigenvalues-ceiling}

-- Only one outcome meets the contract of `schmidt_values_from_density`: its answer, count and sweeps, and every cell of out and scratch.
pub schmidt-values-from-density-one : (rho : List Float) (n : ℕ) (out scratch : List Float) (r r' : Result Counted Refusal) (o o' s s' : List Float)
    → DensityValues rho n out scratch r o s → DensityValues rho n out scratch r' o' s' → (r ≡ r') × (o ≡ o') × (s ≡ s')
schmidt-values-from-density-one rho n out scratch r r' o o' s s' x y =
    let e : paper r ≡ paper r' = x.answer ∙ sym y.answer in (
      counted-one r r' e (x.count ∙ sym y.count) (x.sweeps-are ∙ rw e (sym y.sweeps-are)),
      x.values ∙ sym y.values,
      x.cleared ∙ sym y.cleared,
    )

-- Only one outcome meets the contract of `hermitian_eigenvalues`: its answer and sweeps, and every cell of out and scratch.
pub hermitian-eigenvalues-one : (a : List Float) (n : ℕ) (out scratch : List Float) (r r' : Result Sweeps Refusal) (o o' s s' : List Float)
    → Eigenvalues a n out scratch r o s → Eigenvalues a n out scratch r' o' s' → (r ≡ r') × (o ≡ o') × (s ≡ s')
hermitian-eigenvalues-one a n out scratch r r' o o' s s' x y =
    let e : paper r ≡ paper r' = x.answer ∙ sym y.answer in (
      factored-one r r' e (x.sweeps-are ∙ rw e (sym y.sweeps-are)),
      x.values ∙ sym y.values,
      x.cleared ∙ sym y.cleared,
    )

-- Whatever `hermitian_eigenvalues` is given: at most 60·n(n-1)/2 turned pairs, and at most (sweeps - 1)·n(n-1)/2 where the last sweep was quiet.
pub hermitian-eigenvalues-ceiling : (a : List Float) (n : ℕ) (out scratch : List Float) (r : Result Sweeps Refusal) (o s : List Float)
    → Eigenvalues a n out scratch r o s → Ceiling 60 n (given no_sweeps r)
hermitian-eigenvalues-ceiling a n out scratch r o s x = kept-ceiling 60 n r x.sweeps-are (eigenvalues-ceiling a n)

-- The same of `schmidt_values_from_density`.
pub schmidt-values-from-density-ceiling : (rho : List Float) (n : ℕ) (out scratch : List Float) (r : Result Counted Refusal) (o s : List Float)
    → DensityValues rho n out scratch r o s → Ceiling 60 n (given no_count r).sweeps
schmidt-values-from-density-ceiling rho n out scratch r o s x = kept-ceiling 60 n r x.sweeps-are (eigenvalues-ceiling rho n)
