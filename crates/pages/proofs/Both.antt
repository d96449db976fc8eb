-- Where the sizes of both and the cut are accepted, the density is too; and the numbers of the cut matrix. Assumes nothing.
use mathlib.Core.Bool.{Bool, true, false, not, true≢false}
use mathlib.Core.Path.{◌≡◌, refl, sym, ap, ◌∙◌}
use mathlib.Core.List.{List, [], ◌∷◌, ◌++◌, append-nil}
use Prim.Native.Nat.{ℕ, zero, suc, ◌+◌, ◌*◌, ◌/◌, ◌^◌, ◌≤◌, min}
use native.Mathlib.Omega.{arith}
use borrow.Author.Tests.{eq-eqb, le-ltb}
use lib.Dec.{ltb, eqb}
use lib.Ieee.{Float}
use lib.ListN.{length}
use lib.Seq.{drop-nil}
use Rattle.numbers.specs.Numbers.{allowed}
use Rattle.answers.specs.Paper.{Reply, done, refuse, after, and_then}
use Rattle.answers.proofs.PaperLaws.{refuse-done, and_then-done}
use Rattle.qubits.specs.Lists.{qubit_set, subsystem, density_sizes}
use Rattle.complex.specs.declared.Complex.{Complex}
use Rattle.complex.specs.Cells.{cells_of, written, components}
use Rattle.complex.proofs.CellLaws.{length-cells}
use Rattle.cut_sides.specs.Sides.{cut_sizes, cut_refusal}
use Rattle.qubit_offsets.specs.Calls.{density_refusal}
use Rattle.cuts.specs.Cut.{cut_cell, cut_lengths, cut_answer}
use Rattle.cuts.proofs.CutLaws as cut
use Rattle.density_entries.proofs.MirroredLaws.{square-small}
use Rattle.densities.specs.Density.{density_lengths, density_answer}
use Rattle.densities.proofs.DensityLaws.{side-small}
use Rattle.density_recount.specs.Recount.{recount_sizes}
use Rattle.density_recount.proofs.RecountLaws as recount

-- ---- answers

after-goes : (k : ℕ) (x b : Reply) → k ≡ 0 → b ≡ after k x b
after-goes zero x b h = refl
after-goes (suc k) x b h = absurd (omega arith)

pub goes : (x b : Reply) → x.0 ≡ 0 → b ≡ and_then x b
goes x b h = after-goes x.0 x b h

both_zero : (x b : Reply) → x.0 ≡ 0 → b.0 ≡ 0 → (and_then x b).0 ≡ 0
both_zero x b h g = ap (λ (r : Reply). r.0) (sym (goes x b h)) ∙ g

pass : (t : Bool) (a b : Reply) → t ≡ false → b.0 ≡ 0 → (refuse t a b).0 ≡ 0
pass true a b h e = absurd (true≢false h)
pass false a b h e = e

-- ---- the numbers

-- an accepted list: answer 0 has the place 0
components-done : (i : ℕ) (l : List Float) → (components i l).0 ≡ 0 → components i l ≡ done
unfolding components
components-done i [] e = refl
components-done i (x ∷ l) e =
    let p = refuse-done (not (allowed x)) 6 (i / 2) (components (suc i) l) e in
    ap (λ (t : Bool). refuse t (7, i / 2) (components (suc i) l)) p.0 ∙ components-done (suc i) l p.1

-- ---- the matrix

whole : (m : ℕ) (f : ℕ → Complex) → written m f [] ≡ cells_of m f
unfolding written
whole m f = ap (λ (x : List Float). cells_of m f ++ x) (drop-nil (2 * m)) ∙ append-nil (cells_of m f)

pub matrix-length : (s : List Float) (n : ℕ) (l : List ℕ) → length (written (2 ^ n) (cut_cell s n l) []) ≡ 2 * 2 ^ n
matrix-length s n l = ap length (whole (2 ^ n) (cut_cell s n l)) ∙ length-cells (2 ^ n) (cut_cell s n l)

-- ---- the sizes

both-sizes : (n k cap : ℕ) → (cut_sizes n cap).0 ≡ 0 → (density_sizes n k cap).0 ≡ 0 → (recount_sizes n k cap).0 ≡ 0
both-sizes n k cap e h =
    let A = ltb (min cap 13) (n + 1) in
    let B = ltb (min cap 13) (2 * k) in
    let a = refuse-done (ltb n 1) 0 0 (refuse (ltb 12 n) (1, 0) (refuse A (1, 0) done)) e in
    let b = refuse-done (ltb 12 n) 0 0 (refuse A (1, 0) done) a.1 in
    let c = refuse-done A 0 0 done b.1 in
    let a' = refuse-done (ltb n 1) 0 0 (refuse (ltb 12 n) (1, 0) (refuse B (1, 0) done)) h in
    let b' = refuse-done (ltb 12 n) 0 0 (refuse B (1, 0) done) a'.1 in
    let c' = refuse-done B 0 0 done b'.1 in
    pass (ltb n 1) (1, 0) _ a.0 (pass (ltb 12 n) (1, 0) _ b.0 (pass A (1, 0) (refuse B (1, 0) done) c.0 (pass B (1, 0) done c'.0 refl)))

density-sizes : (n k cap : ℕ) → (recount_sizes n k cap).0 ≡ 0 → (density_sizes n k cap).0 ≡ 0
density-sizes n k cap e =
    let A = ltb (min cap 13) (n + 1) in
    let B = ltb (min cap 13) (2 * k) in
    let a = refuse-done (ltb n 1) 0 0 (refuse (ltb 12 n) (1, 0) (refuse A (1, 0) (refuse B (1, 0) done))) e in
    let b = refuse-done (ltb 12 n) 0 0 (refuse A (1, 0) (refuse B (1, 0) done)) a.1 in
    let c = refuse-done A 0 0 (refuse B (1, 0) done) b.1 in
    let d = refuse-done B 0 0 done c.1 in
    pass (ltb n 1) (1, 0) _ a.0 (pass (ltb 12 n) (1, 0) _ b.0 (pass B (1, 0) done d.0 refl))

density-lengths : (size k m : ℕ) → k ≤ 6 → m ≡ 2 * size → (density_lengths size (2 ^ k) m 8192 128).0 ≡ 0
density-lengths size k m h e =
    let a = side-small k h in
    let b = square-small (2 ^ k) a in
    pass (not (eqb m (2 * size))) (6, 0) _ (ap not (eq-eqb m (2 * size) e))
    (pass (ltb 8192 (2 * (2 ^ k * 2 ^ k))) (6, 2) _ (le-ltb 8192 (2 * (2 ^ k * 2 ^ k)) (omega arith)) (pass (ltb 128 (2 * 2 ^ k)) (6, 3) done (le-ltb 128 (2 * 2 ^ k) (omega arith)) refl))

-- THE DENSITY IS ACCEPTED where the sizes and the cut are
pub density-accepted : (s : List Float) (n : ℕ) (l : List ℕ) (cap : ℕ) → (recount_sizes n (length l) cap).0 ≡ 0 → (cut_answer s n l cap 8192).0 ≡ 0
    → (density_answer s n l cap 8192 128).0 ≡ 0
density-accepted s n l cap r e =
    let C = cut_lengths n (length s) 8192 in
    let a = and_then-done (cut_refusal l n cap) (and_then C (components 0 s)) e in
    let b = and_then-done C (components 0 s) a.1 in
    let c = and_then-done (cut_sizes n cap) (subsystem n l) a.0 in
    let q = and_then-done (qubit_set n l) (refuse (eqb (length l) n) (5, 0) done) c.1 in
    let D = density_lengths (2 ^ n) (2 ^ length l) (length s) 8192 128 in
    both_zero (density_refusal n cap l) (and_then D (components 0 s)) (both_zero (density_sizes n (length l) cap) (qubit_set n l) (density-sizes n (length l) cap r) q.0)
    (both_zero D (components 0 s) (density-lengths (2 ^ n) (length l) (length s) (recount.sizes-done n (length l) cap r).1 (cut.lengths-done n (length s) 8192 b.0).0) b.1)

-- ---- both accepted

module _ (s : List Float) (n : ℕ) (l : List ℕ) (cap : ℕ) (e : (cut_answer s n l cap 8192).0 ≡ 0) (h : (density_answer s n l cap 8192 128).0 ≡ 0) where
  pub density-done : density_answer s n l cap 8192 128 ≡ done
  density-done =
      let L = density_lengths (2 ^ n) (2 ^ length l) (length s) 8192 128 in
      let a = and_then-done (density_refusal n cap l) (and_then L (components 0 s)) h in
      let b = and_then-done L (components 0 s) a.1 in
      sym (goes (density_refusal n cap l) (and_then L (components 0 s)) a.0) ∙ sym (goes L (components 0 s) b.0) ∙ components-done 0 s b.1

  pub sizes-done : (recount_sizes n (length l) cap).0 ≡ 0
  sizes-done =
      let C = and_then (cut_lengths n (length s) 8192) (components 0 s) in
      let D = and_then (density_lengths (2 ^ n) (2 ^ length l) (length s) 8192 128) (components 0 s) in
      both-sizes n (length l) cap (and_then-done (cut_sizes n cap) (subsystem n l) (and_then-done (cut_refusal l n cap) C e).0).0
      (and_then-done (density_sizes n (length l) cap) (qubit_set n l) (and_then-done (density_refusal n cap l) D h).0).0
