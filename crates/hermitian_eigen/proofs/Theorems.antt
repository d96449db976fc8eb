-- What a reader may want to know of this crate's definitions and calls. Assumes nothing.
use mathlib.Core.Path.{◌≡◌, sym, ◌∙◌}
use mathlib.Core.List.{List}
use Prim.Native.Nat.{ℕ}
use lib.Ieee.{Float}
use Rattle.std.specs.Prelude.{Result}
use Rattle.answers.specs.declared.Refusal.{Refusal}
use Rattle.answers.specs.Paper.{paper, given}
use Rattle.sweeps.specs.declared.Sweeps.{Sweeps}
use Rattle.sweeps.specs.Sweeping.{no_sweeps}
use Rattle.factored.proofs.Laws.{factored-one}
use Rattle.hermitian_eigen.specs.Hermitian.{Eigen}
use Rattle.factored.proofs.Laws.{kept-ceiling}
use Rattle.sweeps.proofs.Ceiling.{Ceiling}
use Rattle.hermitian_eigen.proofs.HermitianLaws.{hermitian-ceiling}

-- Only one outcome meets the contract of `hermitian_eigen`: its answer, its sweeps, and every cell of values, vectors and scratch.
pub hermitian-eigen-one : (a : List Float) (dim : ℕ) (values vectors scratch : List Float) (r q : Result Sweeps Refusal) (values' vectors' scratch' values'' vectors'' scratch'' : List Float)
    → Eigen a dim values vectors scratch r values' vectors' scratch' → Eigen a dim values vectors scratch q values'' vectors'' scratch''
    → (r ≡ q) × (values' ≡ values'') × (vectors' ≡ vectors'') × (scratch' ≡ scratch'')
hermitian-eigen-one a dim values vectors scratch r q values' vectors' scratch' values'' vectors'' scratch'' x y =
    let e : paper r ≡ paper q = x.answer ∙ sym y.answer in (
      factored-one r q e (x.sweeps-are ∙ rw e (sym y.sweeps-are)),
      x.values-are ∙ rw e (sym y.values-are),
      x.vectors-are ∙ rw e (sym y.vectors-are),
      x.scratch-is ∙ rw e (sym y.scratch-is),
    )

-- Whatever `hermitian_eigen` is given: at most 100·dim(dim-1)/2 turned pairs, and at most (sweeps - 1)·dim(dim-1)/2 where the last sweep
-- was quiet.
pub hermitian-eigen-ceiling : (a : List Float) (dim : ℕ) (values vectors scratch : List Float) (r : Result Sweeps Refusal) (values' vectors' scratch' : List Float)
    → Eigen a dim values vectors scratch r values' vectors' scratch' → Ceiling 100 dim (given no_sweeps r)
hermitian-eigen-ceiling a dim values vectors scratch r values' vectors' scratch' x =
    kept-ceiling 100 dim r x.sweeps-are (hermitian-ceiling a dim)
