-- What a reader may want to know of this crate's definitions and calls. Assumes nothing.
use mathlib.Core.Path.{◌≡◌, sym, ◌∙◌}
use mathlib.Core.Bool.{false}
use mathlib.Core.List.{List}
use Prim.Native.Nat.{ℕ}
use lib.Ieee.{Float}
use Rattle.std.specs.Prelude.{Result}
use Rattle.answers.specs.declared.Refusal.{Refusal}
use Rattle.answers.specs.Paper.{paper, given}
use Rattle.answers.proofs.PaperLaws.{done-old}
use Rattle.cut_values.specs.declared.CutCounted.{CutCounted}
use Rattle.cut_values.specs.Schmidt.{cut_rows, cut_exact, no_cut, Schmidt}
use Rattle.factored.proofs.Laws.{kept-ceiling}
use Rattle.sweeps.proofs.Ceiling.{Ceiling}
use Rattle.cut_values.proofs.SchmidtLaws.{cut-counted-one, cut-ceiling}

-- Only one outcome meets the contract of `dense_schmidt_values`: its answer, its count, its sweeps, its mark, and every cell of out and scratch.
pub dense-schmidt-values-one : (s : List Float) (n : ℕ) (l : List ℕ) (cap : ℕ) (out scratch : List Float) (r q : Result CutCounted Refusal) (out' scratch' out'' scratch'' : List Float)
    → Schmidt s n l cap out scratch r out' scratch' → Schmidt s n l cap out scratch q out'' scratch''
    → (r ≡ q) × (out' ≡ out'') × (scratch' ≡ scratch'')
dense-schmidt-values-one s n l cap out scratch r q out' scratch' out'' scratch'' x y =
    let e : paper r ≡ paper q = x.answer ∙ sym y.answer in (
      cut-counted-one r q e (x.count ∙ rw e (sym y.count)) (x.sweeps-are ∙ rw e (sym y.sweeps-are)) (x.exact-is ∙ rw e (sym y.exact-is)),
      x.out-is ∙ rw e (sym y.out-is),
      x.scratch-is ∙ rw e (sym y.scratch-is),
    )

-- Whatever `dense_schmidt_values` is given, with k = 2^side: at most 100·k(k-1)/2 turned pairs, and at most (sweeps - 1)·k(k-1)/2 where the
-- last sweep was quiet.
pub dense-schmidt-values-ceiling : (s : List Float) (n : ℕ) (l : List ℕ) (cap : ℕ) (out scratch : List Float) (r : Result CutCounted Refusal) (out' scratch' : List Float)
    → Schmidt s n l cap out scratch r out' scratch' → Ceiling 100 (cut_rows n l) (given no_cut r).sweeps
dense-schmidt-values-ceiling s n l cap out scratch r out' scratch' x = kept-ceiling 100 (cut_rows n l) r x.sweeps-are (cut-ceiling s n l)

-- On every refusal of `dense_schmidt_values`, 8 and 9 included, the mark is no.
pub refused-not-exact : (s : List Float) (n : ℕ) (l : List ℕ) (cap : ℕ) (out scratch : List Float) (r : Result CutCounted Refusal) (out' scratch' : List Float)
    → Schmidt s n l cap out scratch r out' scratch' → ((paper r).0 ≡ 0 → ⊥) → (given no_cut r).exact ≡ false
refused-not-exact s n l cap out scratch r out' scratch' x h = x.exact-is ∙ sym (done-old (paper r).0 (cut_exact s n l) false h)
