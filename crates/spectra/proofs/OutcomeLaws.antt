-- The eigenvalues at each way out, and that the contract leaves one outcome. Assumes nothing.
use mathlib.Core.Path.{◌≡◌, refl, sym, ap, ◌∙◌}
use mathlib.Core.Bool.{Bool, true, false, not}
use mathlib.Core.List.{List, ◌++◌, append-nil}
use mathlib.Core.Logic.{inl}
use Prim.Native.Nat.{ℕ, ◌*◌, ◌≤◌, ◌<◌}
use native.Mathlib.Omega.{arith}
use borrow.Author.Tests.{ltb-false, eqb-true, not-false}
use lib.Dec.{eqb, ltb}
use lib.Ieee.{Float}
use lib.ListN.{length, take, drop, drop_of_length-le}
use lib.Seq.{drop_at, length-take-le}
use Rattle.std.specs.Prelude.{Result, Ok, Err}
use Rattle.answers.specs.declared.Refusal.{Refusal}
use Rattle.answers.proofs.Stopped.{stopped-number}
use Rattle.answers.specs.Paper.{Reply, table as table_of, done, refuse}
use Rattle.answers.specs.declared.Refusal.TheVariants.{NotFinite}
use Rattle.answers.proofs.PaperLaws.{Ended, refuse-done, stays, nine-ended, done-old, worked-new, worked-old, end-old, end-worked}
use Rattle.complex.specs.declared.Complex.{Complex}
use Rattle.complex.specs.Cells.{cell_at, written, components}
use Rattle.complex.proofs.CellLaws.{cell-written, components-small}
use Rattle.complex.specs.Zeros.{zeroed}
use Rattle.tables.specs.Tables.{table, filled}
use Rattle.tables.proofs.TablesLaws.{length-table, take-filled}
use Rattle.svd_load.specs.Loading.{planes_of}
use Rattle.values.specs.Lists.{all_finite}
use Rattle.sweeps.specs.declared.Sweeps.{Sweeps}
use Rattle.sweeps.specs.Sweeping.{no_sweeps}
use Rattle.eigen_pair.specs.CellPlanes.{as_planes}
use Rattle.svd_load.proofs.LoadingLaws.{planes-alike}
use Rattle.sweeps.specs.Sweeping.{State}
use Rattle.eigen_sweeps.specs.Sweeping.{eigen_state, diagonal, eigen_settled}
use Rattle.spectra.specs.Eigenvalues.{eigenvalue, eigenvalues_of, eigenvalues_sweeps, eigen_reply, square_refusal, eigen_answer}
use Rattle.spectra.specs.Outcomes.{Given, SpectrumWorked, Eigenvalues}
use Rattle.sweeps.proofs.Ceiling.{Ceiling}
use Rattle.eigen_sweeps.proofs.SweepingLaws.{settled-ceiling}

-- ---- the refusals

pub square-small : (a : List Float) (n out scratch : ℕ) → (square_refusal a n out scratch).0 < 8
unfolding square_refusal
square-small a n out scratch = pick (ltb n 1) (ltb 64 n) (eqb (length a) (2 * (n * n))) (ltb out n) (ltb scratch (2 * (n * n))) (components 0 a) (components-small 0 a)
  where
    pick : (p q r s t : Bool) (b : Reply) → b.0 < 8
        → (refuse p (1, 0) (refuse q (1, 0) (refuse (not r) (6, 0) (refuse s (6, 1) (refuse t (6, 2) b))))).0 < 8
    pick true q r s t b h = omega arith
    pick false true r s t b h = omega arith
    pick false false false s t b h = omega arith
    pick false false true true t b h = omega arith
    pick false false true false true b h = omega arith
    pick false false true false false b h = h

-- the lengths of a call that is not refused
pub square-given : (a : List Float) (n out scratch : ℕ) → (square_refusal a n out scratch).0 ≡ 0 → Given n (length a) out scratch
unfolding square_refusal
square-given a n out scratch e =
    let r5 = components 0 a in
    let r4 = refuse (ltb scratch (2 * (n * n))) (6, 2) r5 in
    let r3 = refuse (ltb out n) (6, 1) r4 in
    let r2 = refuse (not (eqb (length a) (2 * (n * n)))) (6, 0) r3 in
    let r1 = refuse (ltb 64 n) (1, 0) r2 in
    let d1 = refuse-done (ltb n 1) 0 0 r1 e in
    let d2 = refuse-done (ltb 64 n) 0 0 r2 d1.1 in
    let d3 = refuse-done (not (eqb (length a) (2 * (n * n)))) 5 0 r3 d2.1 in
    let d4 = refuse-done (ltb out n) 5 1 r4 d3.1 in
    let d5 = refuse-done (ltb scratch (2 * (n * n))) 5 2 r5 d4.1 in
    record {
      some = ltb-false n 1 d1.0;
      side = ltb-false 64 n d2.0;
      matrix = eqb-true (length a) (2 * (n * n)) (not-false (eqb (length a) (2 * (n * n))) d3.0);
      room = ltb-false out n d4.0;
      spare = ltb-false scratch (2 * (n * n)) d5.0;
    }

-- ---- the answer

reply-0 : (a : List Float) (n : ℕ) → all_finite (eigenvalues_of a n) ≡ true → eigen_reply a n ≡ done
unfolding eigen_reply
reply-0 a n h = rw h

reply-9 : (a : List Float) (n : ℕ) → all_finite (eigenvalues_of a n) ≡ false → eigen_reply a n ≡ (9, 0)
unfolding eigen_reply
reply-9 a n h = rw h

-- it is 0 or 9
pub reply-worked : (a : List Float) (n : ℕ) → Ended (eigen_reply a n).0
unfolding eigen_reply
reply-worked a n = nine-ended (all_finite (eigenvalues_of a n)) done (inl refl)

-- ---- the work

-- cells that are another matrix's have its planes
pub loaded : (c : ℕ) (f : ℕ → Complex) (old : List Float) {xs : List Float} → xs ≡ written c f old → as_planes c xs ≡ planes_of c f
unfolding as_planes
loaded c f old {xs} e = ap (λ (l : List Float). planes_of c (cell_at l)) e ∙ planes-alike c (cell_at (written c f old)) f (λ k h. cell-written c k f old h)

-- the matrix was loaded, swept, and its diagonal written
pub spectrum-made : (a : List Float) (n : ℕ) (old : List Float) {w1 w2 out : List Float} {s : Sweeps}
    → w1 ≡ planes_of (n * n) (cell_at a) → eigen_state w2 s ≡ eigen_settled n w1 → out ≡ filled n (diagonal w2 n) old → out ≡ filled n (eigenvalue a n) old
unfolding eigenvalue
spectrum-made a n old {w1} {w2} e f g =
    let h : w2 ≡ (eigen_settled n (planes_of (n * n) (cell_at a))).work = ap (λ (x : State). x.work) f ∙ ap (λ (l : List Float). (eigen_settled n l).work) e in
    g ∙ ap (λ (l : List Float). filled n (diagonal l n) old) h

pub spectrum-sweeps : (a : List Float) (n : ℕ) {w1 w2 : List Float} {s : Sweeps}
    → w1 ≡ planes_of (n * n) (cell_at a) → eigen_state w2 s ≡ eigen_settled n w1 → s ≡ eigenvalues_sweeps a n
unfolding eigenvalues_sweeps
spectrum-sweeps a n e f = ap (λ (x : State). x.sweeps) f ∙ ap (λ (l : List Float). (eigen_settled n l).sweeps) e

-- work that was zeroed whole does not say what it held
pub zeroed-other : (m : ℕ) (l l' : List Float) → length l ≤ m → length l' ≤ m → zeroed m l ≡ zeroed m l'
unfolding zeroed
zeroed-other m l l' h g = rw (drop_of_length-le l h, drop_of_length-le l' g)

-- the part of scratch that is needed was zeroed
pub zeroed-part : (m : ℕ) (s e : List Float) → m ≤ length s → e ≡ zeroed m (take m s) → e ++ drop m s ≡ zeroed m s
unfolding zeroed
zeroed-part m s e h i =
    let l : length (take m s) ≤ m = omega (arith, length-take-le m s h) in
    rw (i, drop_of_length-le (take m s) l, append-nil)

pub past_is : (n : ℕ) (f : ℕ → Float) (old : List Float) → drop n (filled n f old) ≡ drop n old
unfolding filled
past_is n f old = drop_at (table n f) (drop n old) n (length-table n f)

module _ (a : List Float) (n : ℕ) (out scratch mid scratch' : List Float) (sweeps : Sweeps) (written : mid ≡ filled n (eigenvalue a n) out)
    (cleared : scratch' ≡ zeroed (2 * (n * n)) scratch) (swept : sweeps ≡ eigenvalues_sweeps a n) (b : Bool) (finite : b ≡ all_finite (take n mid)) where
  all-is : b ≡ all_finite (eigenvalues_of a n)
  all-is = rw (written, take-filled n (eigenvalue a n) out) at finite

  pub worked-done : b ≡ true → SpectrumWorked a n out scratch (Ok sweeps) mid scratch'
  worked-done t =
      let r = reply-0 a n (sym all-is ∙ t) in
      record { answer = sym r; values = rw r written; cleared = cleared; sweeps-are = swept }

  pub worked-infinite : b ≡ false → (end : List Float) → end ≡ zeroed n mid → SpectrumWorked a n out scratch (Err NotFinite) end scratch'
  unfolding zeroed
  worked-infinite t end e =
      let r = reply-9 a n (sym all-is ∙ t) in
      let p : drop n mid ≡ drop n out = rw written (past_is n (eigenvalue a n) out) in
      record { answer = sym r; values = rw r (rw p at e); cleared = cleared; sweeps-are = refl }

-- ---- the entry point

-- refused: nothing lent changes
pub eigenvalues-refused : (a : List Float) (n : ℕ) (out scratch : List Float) (e : Refusal) → table_of e ≡ square_refusal a n (length out) (length scratch)
    → Eigenvalues a n out scratch (Err e) out scratch
eigenvalues-refused a n out scratch r e =
    let x = square_refusal a n (length out) (length scratch) in
    let h = stopped-number r in
    let m : x.0 ≡ 0 → ⊥ = λ z. h (ap (λ (y : Reply). y.0) e ∙ z) in
    let s = sym (stays x (eigen_reply a n) m) in
    let l = square-small a n (length out) (length scratch) in
    record {
      answer = e ∙ sym s;
      values = rw s (end-old _ _ _ _ m l);
      cleared = rw s (worked-old _ _ _ m l);
      sweeps-are = done-old _ _ no_sweeps h;
    }

pub eigenvalues-worked : (a : List Float) (n : ℕ) (out scratch : List Float) (r : Result Sweeps Refusal) (out' scratch' : List Float)
    → eigen_answer a n out scratch ≡ eigen_reply a n → SpectrumWorked a n out scratch r out' scratch' → Eigenvalues a n out scratch r out' scratch'
eigenvalues-worked a n out scratch r out' scratch' e w =
    record {
      answer = w.answer ∙ sym e;
      values = rw e (w.values ∙ end-worked _ _ _ out (reply-worked a n));
      cleared = rw e (w.cleared ∙ worked-new _ _ scratch (reply-worked a n));
      sweeps-are = w.sweeps-are;
    }

-- ---- the turned pairs

pub eigenvalues-ceiling : (a : List Float) (n : ℕ) → Ceiling 60 n (eigenvalues_sweeps a n)
unfolding eigenvalues_sweeps
eigenvalues-ceiling a n = settled-ceiling n (planes_of (n * n) (cell_at a))
