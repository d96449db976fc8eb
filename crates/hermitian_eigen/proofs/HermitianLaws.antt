-- Laws of the statements; `hermitian-eigen-one`: only one outcome meets the contract. Assumes nothing.
use mathlib.Core.Path.{◌≡◌, refl, sym, ap₂, subst, ◌∙◌}
use mathlib.Core.Bool.{Bool, true, false, not}
use mathlib.Core.Logic.{inl}
use mathlib.Core.List.{List, ◌++◌, append-nil}
use Prim.Native.Nat.{ℕ, ◌+◌, ◌*◌, ◌≤◌, ◌<◌}
use native.Mathlib.Omega.{arith}
use native.Mathlib.Nat.{mul-le-mul}
use lib.Dec.{ltb, eqb}
use borrow.Author.Tests.{ltb-false, eqb-true, not-false}
use lib.ListN.{length, drop, drop_of_length-le}
use lib.Ieee.{Float}
use Rattle.std.specs.Prelude.{Result, Err}
use Rattle.answers.specs.declared.Refusal.{Refusal}
use Rattle.answers.proofs.Stopped.{refused, stopped-number}
use Rattle.answers.specs.Paper.{Answer, Reply, paper, table, given, done, refuse, and_then, if_done}
use Rattle.answers.proofs.PaperLaws.{Ended, refuse-done, nine-ended, done-old, worked-new, worked-old, end-old}
use Rattle.complex.specs.Cells.{components}
use Rattle.complex.proofs.CellLaws.{components-small}
use Rattle.complex.specs.Zeros.{zeros, zeroed}
use Rattle.sweeps.specs.declared.Sweeps.{Sweeps}
use Rattle.sweeps.specs.Sweeping.{no_sweeps}
use Rattle.factored.specs.Factored.{kept_sweeps}
use Rattle.svd.specs.Svd.{svd_sweeps}
use Rattle.svd.proofs.SvdLaws.{zeroed-all, join-end, side-tall, svd-ceiling}
use Rattle.hermitian_eigen.specs.Shifted.{shifted_of}
use Rattle.hermitian_eigen.specs.Hermitian.{need_vectors, hermitian_scratch, hermitian_tests, hermitian_values, hermitian_vectors, hermitian_sweeps, finite_results, hermitian_end, hermitian_answer, Eigen, HermitianExact, HermitianFinished, HermitianWorked}
use Rattle.sweeps.proofs.Ceiling.{Ceiling}

-- ---- the refusals

tests-small : (a : List Float) (dim values vectors scratch : ℕ) → (hermitian_tests a dim values vectors scratch).0 < 8
unfolding hermitian_tests
tests-small a dim values vectors scratch =
    pick (ltb dim 1) (ltb 64 dim) (eqb (length a) (2 * (dim * dim))) (ltb values dim) (ltb vectors (need_vectors dim)) (ltb scratch (hermitian_scratch dim)) (components 0 a)
    (components-small 0 a)
  where
    pick : (p q r s t u : Bool) (b : Reply) → b.0 < 8
        → (refuse p (1, 0) (refuse q (1, 0) (refuse (not r) (6, 0) (refuse s (6, 1) (refuse t (6, 2) (refuse u (6, 3) b)))))).0 < 8
    pick true q r s t u b h = omega arith
    pick false true r s t u b h = omega arith
    pick false false false s t u b h = omega arith
    pick false false true true t u b h = omega arith
    pick false false true false true u b h = omega arith
    pick false false true false false true b h = omega arith
    pick false false true false false false b h = h

-- the side and the lengths of a call that is not refused
pub record HermitianAccepted (dim a values vectors scratch : ℕ) : Type 0 where
  pub side : dim ≤ 64
  pub a-is : a ≡ 2 * (dim * dim)
  pub values-fit : dim ≤ values
  pub vectors-fit : need_vectors dim ≤ vectors
  pub scratch-fits : hermitian_scratch dim ≤ scratch
  pub cells : dim * dim ≤ 4096

pub accepted : (a : List Float) (dim values vectors scratch : ℕ) → (hermitian_tests a dim values vectors scratch).0 ≡ 0 → HermitianAccepted dim (length a) values vectors scratch
unfolding hermitian_tests
accepted a dim values vectors scratch e =
    let t0 = refuse-done (ltb dim 1) 0 0 _ e in
    let t1 = refuse-done (ltb 64 dim) 0 0 _ t0.1 in
    let t2 = refuse-done (not (eqb (length a) (2 * (dim * dim)))) 5 0 _ t1.1 in
    let t3 = refuse-done (ltb values dim) 5 1 _ t2.1 in
    let t4 = refuse-done (ltb vectors (need_vectors dim)) 5 2 _ t3.1 in
    let t5 = refuse-done (ltb scratch (hermitian_scratch dim)) 5 3 (components 0 a) t4.1 in
    record {
      side = ltb-false 64 dim t1.0;
      a-is = eqb-true (length a) (2 * (dim * dim)) (not-false (eqb (length a) (2 * (dim * dim))) t2.0);
      values-fit = ltb-false values dim t3.0;
      vectors-fit = ltb-false vectors (need_vectors dim) t4.0;
      scratch-fits = ltb-false scratch (hermitian_scratch dim) t5.0;
      cells = mul-le-mul (ltb-false 64 dim t1.0) (ltb-false 64 dim t1.0);
    }

-- ---- the end

-- all finite, or not
pub finished-good : (values vectors : List Float) (r : Answer) → paper r ≡ done → finite_results values vectors ≡ true → HermitianFinished values vectors r values vectors
unfolding hermitian_end
finished-good values vectors r e h = record { answer = e ∙ rw h; values-are = rw e; vectors-are = rw e }

pub finished-bad : (values vectors : List Float) (r : Answer) {values' vectors' : List Float} → paper r ≡ (9, 0) → finite_results values vectors ≡ false
    → values' ≡ zeroed (length values) values → vectors' ≡ zeroed (length vectors) vectors → HermitianFinished values vectors r values' vectors'
unfolding hermitian_end
finished-bad values vectors r e h ea ec =
    record { answer = e ∙ rw h; values-are = rw e (ea ∙ zeroed-all values); vectors-are = rw e (ec ∙ zeroed-all vectors) }

-- 0 or 9
end-number : (values vectors : List Float) → Ended (hermitian_end values vectors).0
unfolding hermitian_end
end-number values vectors = nine-ended (finite_results values vectors) done (inl refl)

pub worked : (a : List Float) (dim la : ℕ) (values₀ vectors₀ scratch₀ scratch : List Float) {values vectors values' vectors' scratch' : List Float} (q : Answer) (r : Result Sweeps Refusal)
    → HermitianExact dim la (length values₀) (length vectors₀) (length scratch₀)
    → length values ≡ length values₀ → length vectors ≡ length vectors₀
    → values ≡ hermitian_values a dim → vectors ≡ hermitian_vectors a dim
    → (k : ℕ) → k ≡ length scratch₀ → length scratch ≡ length scratch₀ → scratch' ≡ zeroed k scratch → HermitianFinished values vectors q values' vectors'
    → paper r ≡ paper q → given no_sweeps r ≡ kept_sweeps r (hermitian_sweeps a dim)
    → HermitianWorked a dim r values' vectors' scratch'
unfolding zeroed
worked a dim la values₀ vectors₀ scratch₀ scratch {values} {vectors} {values'} {vectors'} q r e lv lw ev ew k ek lt z g i w =
    let l : length scratch ≤ k = omega arith in
    record {
      answer = i ∙ g.answer ∙ ap₂ hermitian_end ev ew;
      values-are = rw i (g.values-are ∙ ap₂ (λ (x : List Float) (y : ℕ). if_done (paper q).0 x (zeros y)) ev (lv ∙ e.values-are));
      vectors-are = rw i (g.vectors-are ∙ ap₂ (λ (x : List Float) (y : ℕ). if_done (paper q).0 x (zeros y)) ew (lw ∙ e.vectors-are));
      scratch-is = z ∙ rw (drop_of_length-le scratch l, append-nil, ek, e.scratch-is);
      sweeps-are = w;
    }

-- an accepted call, and a refused one
pub eigen-worked : (a : List Float) (dim : ℕ) (values vectors scratch : List Float) (r : Result Sweeps Refusal) {values' vectors' scratch' : List Float}
    → and_then (hermitian_tests a dim (length values) (length vectors) (length scratch)) (hermitian_end (hermitian_values a dim) (hermitian_vectors a dim))
    ≡ hermitian_end (hermitian_values a dim) (hermitian_vectors a dim)
    → HermitianWorked a dim r values' vectors' scratch'
    → Eigen a dim values vectors scratch r (values' ++ drop dim values) (vectors' ++ drop (2 * (dim * dim)) vectors) (scratch' ++ drop (6 * (dim * dim) + 2 * dim) scratch)
unfolding hermitian_answer zeroed
eigen-worked a dim values vectors scratch r e w =
    let p : Ended (paper r).0 = rw w.answer (end-number (hermitian_values a dim) (hermitian_vectors a dim)) in
    record {
      answer = w.answer ∙ sym e;
      values-are = rw w.values-are (join-end (paper r).0 (hermitian_values a dim) (zeros dim) (drop dim values) values p);
      vectors-are = rw w.vectors-are (join-end (paper r).0 (hermitian_vectors a dim) (zeros (need_vectors dim)) (drop (need_vectors dim) vectors) vectors p);
      scratch-is = rw w.scratch-is (worked-new (paper r).0 (zeros (hermitian_scratch dim) ++ drop (hermitian_scratch dim) scratch) scratch p);
      sweeps-are = w.sweeps-are;
    }

pub eigen-refused : (a : List Float) (dim : ℕ) (values vectors scratch : List Float) (e : Refusal)
    → table e ≡ hermitian_tests a dim (length values) (length vectors) (length scratch) → Eigen a dim values vectors scratch (Err e) values vectors scratch
unfolding hermitian_answer
eigen-refused a dim values vectors scratch r e =
    let h = stopped-number r in
    let b : (table r).0 < 8 = rw e (tests-small a dim (length values) (length vectors) (length scratch)) in
    record {
      answer = refused r _ (hermitian_end (hermitian_values a dim) (hermitian_vectors a dim)) e;
      values-are = end-old (table r).0 _ _ values h b;
      vectors-are = end-old (table r).0 _ _ vectors h b;
      scratch-is = worked-old (table r).0 _ scratch h b;
      sweeps-are = done-old (table r).0 _ no_sweeps h;
    }

-- ---- the turned pairs

pub hermitian-ceiling : (a : List Float) (dim : ℕ) → Ceiling 100 dim (hermitian_sweeps a dim)
unfolding hermitian_sweeps
hermitian-ceiling a dim =
    subst (λ (k : ℕ). Ceiling 100 k (svd_sweeps (shifted_of a dim) dim dim)) (side-tall dim dim (omega arith)).0 (svd-ceiling (shifted_of a dim) dim dim)
