-- What a reader may want to know of this crate's definitions and calls. Assumes nothing.
use mathlib.Core.Path.{◌≡◌, sym, ◌∙◌}
use mathlib.Core.List.{List}
use Prim.Native.Nat.{ℕ}
use lib.Ieee.{Float}
use Rattle.std.proofs.Common.{Result}
use Rattle.answers.specs.declared.Refusal.{Refusal}
use Rattle.answers.specs.Paper.{paper, given}
use Rattle.sweeps.specs.declared.Sweeps.{Sweeps}
use Rattle.sweeps.specs.Sweeping.{no_sweeps}
use Rattle.factored.proofs.Laws.{factored-one}
use Rattle.svd.specs.Svd.{side_of, Svd}
use Rattle.factored.proofs.Laws.{kept-ceiling}
use Rattle.sweeps.proofs.Ceiling.{Ceiling}
use Rattle.svd.proofs.SvdLaws.{svd-ceiling}

-- Only one outcome meets the contract of `svd_jacobi`: its answer, its sweeps, and every cell of u, s, vt and scratch.
pub svd-jacobi-one : (a : List Float) (m n : ℕ) (u s vt scratch : List Float) (r q : Result Sweeps Refusal) (u' s' vt' scratch' u'' s'' vt'' scratch'' : List Float)
    → Svd a m n u s vt scratch r u' s' vt' scratch' → Svd a m n u s vt scratch q u'' s'' vt'' scratch''
    → (r ≡ q) × (u' ≡ u'') × (s' ≡ s'') × (vt' ≡ vt'') × (scratch' ≡ scratch'')
svd-jacobi-one a m n u s vt scratch r q u' s' vt' scratch' u'' s'' vt'' scratch'' x y =
    let e : paper r ≡ paper q = x.answer ∙ sym y.answer in (
      factored-one r q e (x.sweeps-are ∙ rw e (sym y.sweeps-are)),
      x.u-is ∙ rw e (sym y.u-is),
      x.s-is ∙ rw e (sym y.s-is),
      x.vt_is ∙ rw e (sym y.vt_is),
      x.scratch-is ∙ rw e (sym y.scratch-is),
    )

-- Whatever `svd_jacobi` is given, with k the smaller side: at most 100·k(k-1)/2 turned pairs, and at most (sweeps - 1)·k(k-1)/2 where
-- the last sweep was quiet.
pub svd-jacobi-ceiling : (a : List Float) (m n : ℕ) (u s vt scratch : List Float) (r : Result Sweeps Refusal) (u' s' vt' scratch' : List Float)
    → Svd a m n u s vt scratch r u' s' vt' scratch' → Ceiling 100 (side_of m n) (given no_sweeps r)
svd-jacobi-ceiling a m n u s vt scratch r u' s' vt' scratch' x = kept-ceiling 100 (side_of m n) r x.sweeps-are (svd-ceiling a m n)
