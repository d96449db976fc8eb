-- Laws of the Schmidt values of a cut: each step hands on what the next asks, the call at each way out, and that only one outcome meets
-- its contract. Assumes nothing.
use mathlib.Core.Bool.{Bool, true, false, not, ◌&&◌}
use mathlib.Core.Path.{◌≡◌, refl, sym, ap, ap₂, subst, ◌∙◌}
use mathlib.Core.Logic.{⊎_elim}
use mathlib.Core.List.{List, [], ◌∷◌, ◌++◌, append-nil}
use Prim.Native.Nat.{ℕ, zero, suc, ◌+◌, ◌-◌, ◌*◌, ◌^◌, ◌≤◌, ◌<◌, min}
use native.Mathlib.Nat.{min-le_left, min-le_right, eq-or-lt_of_le, mul_comm, mul-le-mul_right}
use native.Mathlib.Omega.{arith}
use borrow.Author.Tests.{ltb-false, eqb-true, not-false}
use lib.Dec.{ltb, leb, eqb}
use lib.Ieee.{Float}
use lib.ListN.{length, take, drop, drop_of_length-le, length-append}
use lib.Seq.{take_at}
use lib.Pow.{pow_mono}
use Rattle.std.specs.Prelude.{Result, Err}
use Rattle.answers.specs.declared.Refusal.{Refusal}
use Rattle.answers.proofs.Stopped.{refused, stopped-number}
use Rattle.answers.proofs.Theorems.{result-one}
use Rattle.answers.specs.Paper.{Reply, paper, table, given, done, refuse, after, and_then, if_done, if_worked, at_end}
use Rattle.answers.specs.declared.Refusal.TheVariants.{NotFinite}
use Rattle.answers.proofs.PaperLaws.{refuse-done, and_then-done, refuse-small, after_small, done-old, Ended, nine-ended, worked-new, worked-old, end-old, end-worked}
use Rattle.qubits.specs.Lists.{stands, places_from, places, qubit_set, subsystem}
use Rattle.complex.specs.Cells.{cells_of, components}
use Rattle.complex.proofs.CellLaws.{components-small}
use Rattle.complex.specs.Zeros.{zeroed}
use Rattle.cut_sides.specs.declared.Sides.{Sides}
use Rattle.cut_sides.specs.Sides.{cut_sizes, cut_refusal, Parted, side, sides_of}
use Rattle.cuts.specs.Cut.{cut_cell, CutReady}
use Rattle.cuts.proofs.CutLaws.{ready}
use Rattle.sweeps.specs.declared.Sweeps.{Sweeps}
use Rattle.sweeps.specs.Sweeping.{State}
use Rattle.svd_sweeps.specs.Sweeping.{settled}
use Rattle.svd_sweeps.proofs.SweepingLaws.{settled-alike}
use Rattle.svd_load.specs.Loading.{unit_planes}
use Rattle.stable_order.specs.Order.{order_to}
use Rattle.svd_columns.specs.Columns.{norms_of, norms_exact, sorted_of}
use Rattle.values.specs.Lists.{all_finite}
use Rattle.values.specs.Sort.{sorted_down}
use Rattle.sweeps.specs.Sweeping.{no_sweeps}
use Rattle.cut_values.specs.declared.CutCounted.{CutCounted}
use Rattle.factored.specs.Factored.{kept_sweeps}
use Rattle.finish.specs.declared.Finished.{Finished}
use Rattle.finish.specs.Finish.{finish_of, finish_exact, finish_reply, padded}
use Rattle.finish.specs.Outcome.{no_finish, MarkedOutcome}
use Rattle.finish.proofs.OutcomeLaws.{reply-worked}
use Rattle.svd_thin.specs.Thin.{swept, order_of, values_of}
use Rattle.svd.specs.Svd.{side_of, work_of, s_of, svd_sweeps}
use Rattle.svd.specs.Svd as svd
use Rattle.svd.proofs.SvdLaws.{side-wide, side-tall, svd-ceiling}
use Rattle.cut_values.specs.Schmidt.{cut_rows, cut_columns, singular_values, cut_sweeps, columns_exact, cut_exact, columns_exact_of, cut_values_scratch, cut_values_lengths, cut_values_rest, cut_values_tests, values_reply, cut_values_answer, no_cut, Schmidt, CutValuesSized, sides_matrix, norms_after, singular_of, sweeps_of, CutValuesSettled, CutValuesFinished, CutValuesMade, CutValuesWorked, over_answer, SchmidtOver}
use Rattle.sweeps.proofs.Ceiling.{Ceiling}

-- ---- the lengths

pub lengths-done : (n rows state out scratch : ℕ) → (cut_values_lengths n rows state out scratch).0 ≡ 0
    → (state ≡ 2 * 2 ^ n) × (rows ≤ out) × (cut_values_scratch n rows ≤ scratch)
unfolding cut_values_lengths
lengths-done n rows state out scratch e =
    let a = refuse-done (not (eqb state (2 * 2 ^ n))) 5 0 _ e in
    let b = refuse-done (ltb out rows) 5 2 _ a.1 in
    let c = refuse-done (ltb scratch (cut_values_scratch n rows)) 5 3 _ b.1 in
    (eqb-true state (2 * 2 ^ n) (not-false (eqb state (2 * 2 ^ n)) a.0), ltb-false out rows b.0, ltb-false scratch (cut_values_scratch n rows) c.0)

-- what a call that 6 and 7 do not refuse has
pub rest-done : (s : List Float) (n rows out scratch : ℕ) → (cut_values_rest s n rows out scratch).0 ≡ 0
    → (length s ≡ 2 * 2 ^ n) × (rows ≤ out) × (cut_values_scratch n rows ≤ scratch)
unfolding cut_values_rest
rest-done s n rows out scratch e =
    lengths-done n rows (length s) out scratch (and_then-done (cut_values_lengths n rows (length s) out scratch) (components 0 s) e).0

-- ---- the sides of an accepted cut

pub sides-few : (n : ℕ) (l : List ℕ) (z : Sides) → Parted l n → z ≡ sides_of l n → z.rows ≤ 64
sides-few n l z p e =
    let low : side l n ≤ length l = min-le_left (length l) (n - length l) in
    let high : side l n ≤ n - length l = min-le_right (length l) (n - length l) in
    let six : side l n ≤ 6 = omega (arith, p.listed.small) in
    rw e (pow_mono {i = side l n} {j = 6} six)

pub sized : (s : List Float) (n : ℕ) (l : List ℕ) (z : Sides) → Parted l n → z ≡ sides_of l n → length s ≡ 2 * 2 ^ n → CutValuesSized n z s
sized s n l z p e k =
    let t = ready s n l s p k (omega arith) in
    let low : side l n ≤ length l = min-le_left (length l) (n - length l) in
    let high : side l n ≤ n - length l = min-le_right (length l) (n - length l) in
    let few = sides-few n l z p e in
    record {
      small = p.listed.small;
      row_lt = rw e t.row_lt;
      column-lt = rw e t.column-lt;
      product = rw e t.product;
      some = rw e t.some;
      few = few;
      wide = rw e (pow_mono {i = side l n} {j = n - side l n} (omega arith));
      state = k;
    }

pub sized-ready : (n : ℕ) (z : Sides) (s o : List Float) → CutValuesSized n z s → length o ≡ 2 * 2 ^ n
    → CutReady n z.row z.column z.rows z.columns s o
sized-ready n z s o p k =
    record {
      small = p.small;
      row_lt = p.row_lt;
      column-lt = p.column-lt;
      product = p.product;
      some = p.some;
      state = p.state;
      room = omega arith;
    }

-- the matrix has 2^n cells either way round
pub all-cells : (n : ℕ) (z : Sides) (s : List Float) → CutValuesSized n z s → z.rows * z.columns ≡ 2 ^ n
all-cells n z s p = mul_comm z.rows z.columns ∙ p.product

-- and a row for each of 2^n cells at most
pub rows_fit : (n : ℕ) (z : Sides) (s : List Float) → CutValuesSized n z s → z.rows ≤ 2 ^ n
rows_fit n z s p =
    let h : 1 * z.rows ≤ z.columns * z.rows = mul-le-mul_right z.rows (omega (arith, p.some, p.wide)) in
    omega (arith, p.product)

-- ---- the front of an array that was lent

pub front_length : (k : ℕ) (x y : List Float) → length x ≡ k → length (take k (x ++ y)) ≡ k
front_length k x y h = ap length (take_at x y k h) ∙ h

pub front-in : (k : ℕ) (x y : List Float) → length x ≡ k → k ≤ length (x ++ y)
front-in k x y h = omega (arith, length-append x y)

-- lengths that are known through another
pub le_same : {x y z : ℕ} → x ≤ y → z ≡ y → x ≤ z
le_same h e = omega arith

pub same-le : {x y z : ℕ} → x ≡ y → y ≤ z → x ≤ z
same-le e h = omega arith

-- ---- the singular values

-- the smaller and the larger size of a matrix that is no taller than wide
sizes : (m k : ℕ) → m ≤ k → (side_of m k ≡ m) × (svd.rows_of m k ≡ k)
sizes m k h =
    ⊎_elim
    (λ (e : m ≡ k). let t = side-tall m k (omega arith) in (t.0 ∙ sym e, t.1 ∙ e))
    (λ (l : m < k). side-wide m k l)
    (eq-or-lt_of_le h)

-- the sweeps of the cut's work matrix alone
abbrev pub alone_of : List Float → ℕ → Sides → State
alone_of s n z = settled z.columns z.rows (work_of (sides_matrix s n z) z.rows z.columns) []

-- no V is any part of the norms, of the marks of their roots, or of the counts
pub settled-by : (s : List Float) (n : ℕ) (z : Sides) (x : List Float) (r : Sweeps) → CutValuesSized n z s
    → norms_of (alone_of s n z).work z.columns z.rows ≡ norms_of x z.columns z.rows
    → norms_exact (alone_of s n z).work z.columns z.rows ≡ norms_exact x z.columns z.rows
    → (alone_of s n z).sweeps ≡ r → CutValuesSettled s n z x r
unfolding norms_after columns_exact_of columns_exact sweeps_of svd_sweeps swept
settled-by s n z x r p e f g =
    let k = sizes z.rows z.columns p.wide in
    let a = work_of (sides_matrix s n z) z.rows z.columns in
    let same = settled-alike z.columns z.rows a [] (unit_planes z.rows) in
    record {
      norms = sym e ∙ ap (λ (y : List Float). norms_of y z.columns z.rows) same.work;
      exact = sym f ∙ ap (λ (y : List Float). norms_exact y z.columns z.rows) same.work ∙ rw (k.0, k.1);
      sweeps =
          sym g
          ∙ same.sweeps
          ∙ ap (λ (y : ℕ). (swept y z.rows a).sweeps) (sym k.1)
          ∙ ap (λ (y : ℕ). (swept (svd.rows_of z.rows z.columns) y a).sweeps) (sym k.0);
    }

pub values-made : (s : List Float) (n : ℕ) (z : Sides) {norms values : List Float} → CutValuesSized n z s → norms ≡ norms_after s n z
    → values ≡ sorted_of norms (order_to norms z.rows) z.rows → values ≡ singular_of s n z
unfolding singular_of s_of values_of order_of norms_after
values-made s n z p e h =
    let k = sizes z.rows z.columns p.wide in
    h ∙ rw (e, k.0, k.1)

-- ---- the finish

module _ (values old : List Float) (b : Bool) (f : b ≡ all_finite values) where
  tested : (t : Bool) → b ≡ t → values_reply values ≡ refuse (not t) (9, 0) (finish_reply values)
  unfolding values_reply
  tested t h = ap (λ (x : Bool). refuse (not x) (9, 0) (finish_reply values)) (sym f ∙ h)

  pub finished-good : (r : Result Finished Refusal) (end : List Float) → b ≡ true → MarkedOutcome values old r end → CutValuesFinished values old r end
  finished-good r end h o = record {
    answer = o.answer ∙ sym (tested true h);
    count = rw o.answer o.count;
    out-is = rw o.answer o.out;
    exact-is = rw o.answer o.exact-is;
  }

  pub finished-bad : (end : List Float) → b ≡ false → end ≡ zeroed (length values) old → CutValuesFinished values old (Err NotFinite) end
  finished-bad end h e = record { answer = sym (tested false h); count = refl; out-is = e; exact-is = refl }

-- 0, 8 or 9
pub values-number : (values : List Float) → Ended (values_reply values).0
unfolding values_reply
values-number values = nine-ended (all_finite values) (finish_reply values) (reply-worked (sorted_down values))

-- ---- the work

-- a refusal's mark is no
and-done : (x : ℕ) (a b : Bool) → (a && if_done x b false) ≡ if_done x (a && b) false
and-done zero a b = refl
and-done (suc x) true b = refl
and-done (suc x) false b = refl

-- the counts of what the finish left, under its answer, with the sweeps and the mark of the columns
pub made : (s : List Float) (n : ℕ) (z : Sides) (old values : List Float) (r : Result Finished Refusal) (q : Result CutCounted Refusal) {out : List Float} (b : Bool)
    → values ≡ singular_of s n z → length values ≡ z.rows → b ≡ columns_exact_of s n z → CutValuesFinished values old r out
    → paper q ≡ paper r → (given no_cut q).count ≡ (given no_finish r).count → (given no_cut q).sweeps ≡ kept_sweeps q (sweeps_of s n z)
    → (given no_cut q).exact ≡ (b && (given no_finish r).exact) → CutValuesMade s n z old q out
made s n z old values r q b e l y f a k w t =
    record {
      answer = a ∙ f.answer ∙ ap values_reply e;
      count = k ∙ rw a (f.count ∙ ap (λ (x : List Float). if_done (paper r).0 (length (finish_of x)) 0) e);
      out-is = rw a (f.out-is ∙ ap₂ (λ (x : ℕ) (y : List Float). if_done (paper r).0 (padded x (finish_of y) old) (zeroed x old)) l e);
      sweeps-are = w;
      exact-is =
          rw a
          (t ∙ ap₂ ◌&&◌ y (f.exact-is ∙ ap (λ (x : List Float). if_done (paper r).0 (finish_exact x) false) e) ∙ and-done (paper r).0 (columns_exact_of s n z) (finish_exact (singular_of s n z)));
    }

pub worked : (s : List Float) (n : ℕ) (z : Sides) (old mid : List Float) (q : Result CutCounted Refusal) {out scratch : List Float} (k : ℕ) → CutValuesMade s n z old q out
    → length mid ≡ cut_values_scratch n z.rows → k ≡ cut_values_scratch n z.rows → scratch ≡ zeroed k mid → CutValuesWorked s n z old q out scratch
unfolding zeroed
worked s n z old mid q k w lm ek h =
    let m : length mid ≤ k = omega arith in
    record {
      answer = w.answer;
      count = w.count;
      out-is = w.out-is;
      scratch-is = h ∙ rw (drop_of_length-le mid m, append-nil, ek);
      sweeps-are = w.sweeps-are;
      exact-is = w.exact-is;
    }

-- ---- the call

places-small : (n : ℕ) (l : List ℕ) (i : ℕ) (m : List ℕ) → (places_from n l i m).0 < 8
unfolding places_from
places-small n l i [] = omega arith
places-small n l i (q ∷ m) =
    refuse-small (leb n q) 2 i _ (omega arith) (refuse-small (stands q (take i l)) 3 i _ (omega arith) (places-small n l (suc i) m))

done-small : (t : Bool) (k p : ℕ) → k < 8 → (refuse t (k, p) done).0 < 8
done-small t k p h = refuse-small t k p done h (omega arith)

pub cut_small : (l : List ℕ) (n cap : ℕ) → (cut_refusal l n cap).0 < 8
cut_small l n cap =
    let one : 1 < 8 = omega arith in
    let reg : (b : Reply) → b.0 < 8 → (refuse (ltb n 1) (1, 0) (refuse (ltb 12 n) (1, 0) b)).0 < 8
    = λ b h. refuse-small (ltb n 1) 1 0 (refuse (ltb 12 n) (1, 0) b) one (refuse-small (ltb 12 n) 1 0 b one h) in
    let listed : (places n l).0 < 8 = after_small (places_from n l 0 l).0 (places_from n l 0 l) (refuse (eqb (length l) 0) (4, 0) done) (places-small n l 0 l) (done-small (eqb (length l) 0) 4 0 (omega arith)) in
    let set : (qubit_set n l).0 < 8 = reg (places n l) listed in
    after_small (cut_sizes n cap).0 (cut_sizes n cap) (subsystem n l) (reg _ (done-small (ltb (min cap 13) (n + 1)) 1 0 one))
    (after_small (qubit_set n l).0 (qubit_set n l) (refuse (eqb (length l) n) (5, 0) done) set (done-small (eqb (length l) n) 5 0 (omega arith)))

rest-small : (s : List Float) (n rows out scratch : ℕ) → (cut_values_rest s n rows out scratch).0 < 8
unfolding cut_values_rest cut_values_lengths
rest-small s n rows out scratch =
    let six : 6 < 8 = omega arith in
    after_small (cut_values_lengths n rows (length s) out scratch).0 (cut_values_lengths n rows (length s) out scratch) (components 0 s)
    (refuse-small (not (eqb (length s) (2 * 2 ^ n))) 6 0 _ six (refuse-small (ltb out rows) 6 2 _ six (done-small (ltb scratch (cut_values_scratch n rows)) 6 3 six)))
    (components-small 0 s)

tests-small : (s : List Float) (n : ℕ) (l : List ℕ) (cap out scratch : ℕ) → (cut_values_tests s n l cap out scratch).0 < 8
unfolding cut_values_tests
tests-small s n l cap out scratch =
    after_small (cut_refusal l n cap).0 (cut_refusal l n cap) (cut_values_rest s n (cut_rows n l) out scratch) (cut_small l n cap) (rest-small s n (cut_rows n l) out scratch)

-- refused: nothing lent changes
pub schmidt-refused : (s : List Float) (n : ℕ) (l : List ℕ) (cap : ℕ) (out scratch : List Float) (e : Refusal)
    → table e ≡ cut_values_tests s n l cap (length out) (length scratch) → Schmidt s n l cap out scratch (Err e) out scratch
unfolding cut_values_answer
schmidt-refused s n l cap out scratch r e =
    let h = stopped-number r in
    let b : (table r).0 < 8 = rw e (tests-small s n l cap (length out) (length scratch)) in
    record {
      answer = refused r _ (values_reply (singular_values s n l)) e;
      count = done-old (table r).0 _ 0 h;
      out-is = end-old (table r).0 _ _ out h b;
      scratch-is = worked-old (table r).0 _ scratch h b;
      sweeps-are = done-old (table r).0 _ no_sweeps h;
      exact-is = done-old (table r).0 _ false h;
    }

-- over the sides of an accepted cut: 6 and 7 decide, and past them the work on the needed part of scratch
module _ (s : List Float) (n : ℕ) (z : Sides) (out scratch : List Float) where
  pub over-refused : (e : Refusal) → table e ≡ cut_values_rest s n z.rows (length out) (length scratch) → SchmidtOver s n z out scratch (Err e) out scratch
  unfolding over_answer
  over-refused r e =
      let h = stopped-number r in
      let b : (table r).0 < 8 = rw e (rest-small s n z.rows (length out) (length scratch)) in
      record {
        answer = refused r _ (values_reply (singular_of s n z)) e;
        count = done-old (table r).0 _ 0 h;
        out-is = end-old (table r).0 _ _ out h b;
        scratch-is = worked-old (table r).0 _ scratch h b;
        sweeps-are = done-old (table r).0 _ no_sweeps h;
        exact-is = done-old (table r).0 _ false h;
      }

  pub over-worked : (r : Result CutCounted Refusal) {out' scratch' : List Float} (k : ℕ) → k ≡ cut_values_scratch n z.rows
      → (cut_values_rest s n z.rows (length out) (length scratch)).0 ≡ 0
      → CutValuesWorked s n z out r out' scratch' → SchmidtOver s n z out scratch r out' (scratch' ++ drop k scratch)
  unfolding over_answer zeroed
  over-worked r k ek d w =
      let v = values_reply (singular_of s n z) in
      let y = cut_values_rest s n z.rows (length out) (length scratch) in
      let q : and_then y v ≡ v = ap (λ (i : ℕ). after i y v) d in
      let x = (paper r).0 in
      let p : Ended x = rw w.answer (values-number (singular_of s n z)) in
      record {
        answer = w.answer ∙ sym q;
        count = w.count;
        out-is = w.out-is ∙ end-worked x _ _ out p;
        scratch-is = ap₂ (λ (y : List Float) (v : ℕ). y ++ drop v scratch) w.scratch-is ek ∙ worked-new x _ scratch p;
        sweeps-are = w.sweeps-are;
        exact-is = w.exact-is;
      }

-- THE CALL IS ITS WORK over the list's sides, where 1 to 5 do not refuse
module _ (s : List Float) (n : ℕ) (l : List ℕ) (cap : ℕ) (out scratch : List Float) (z : Sides) (e : z ≡ sides_of l n) (c : (cut_refusal l n cap).0 ≡ 0) where
  singular-sides : singular_of s n z ≡ singular_values s n l
  unfolding singular_of singular_values
  singular-sides = rw e

  sweeps-sides : sweeps_of s n z ≡ cut_sweeps s n l
  unfolding sweeps_of cut_sweeps
  sweeps-sides = ap (λ (y : Sides). svd_sweeps (sides_matrix s n y) y.rows y.columns) e

  exact-sides : (columns_exact_of s n z && finish_exact (singular_of s n z)) ≡ cut_exact s n l
  unfolding columns_exact_of cut_exact
  exact-sides = ap₂ ◌&&◌ (ap (λ (y : Sides). columns_exact (sides_matrix s n y) y.rows y.columns) e) (ap (λ (v : List Float). finish_exact v) singular-sides)

  answer-sides : over_answer s n z (length out) (length scratch) ≡ cut_values_answer s n l cap (length out) (length scratch)
  unfolding over_answer cut_values_answer cut_values_tests
  answer-sides =
      let b = cut_values_rest s n (cut_rows n l) (length out) (length scratch) in
      let t : b ≡ and_then (cut_refusal l n cap) b = sym (ap (λ (k : ℕ). after k (cut_refusal l n cap) b) c) in
      ap₂ (λ (y : Sides) (v : List Float). and_then (cut_values_rest s n y.rows (length out) (length scratch)) (values_reply v)) e singular-sides
      ∙ ap (λ (x : Reply). and_then x (values_reply (singular_values s n l))) t

  pub schmidt-is-over : (r : Result CutCounted Refusal) {out' scratch' : List Float} → SchmidtOver s n z out scratch r out' scratch' → Schmidt s n l cap out scratch r out' scratch'
  schmidt-is-over r w =
      let m : z.rows ≡ cut_rows n l = rw e in
      let x = (paper r).0 in
      record {
        answer = w.answer ∙ answer-sides;
        count = w.count ∙ ap (λ (y : List Float). if_done x (length (finish_of y)) 0) singular-sides;
        out-is = w.out-is ∙ ap₂ (λ (y : ℕ) (v : List Float). at_end x (padded y (finish_of v) out) (zeroed y out) out) m singular-sides;
        scratch-is = w.scratch-is ∙ ap (λ (y : ℕ). if_worked x (zeroed (cut_values_scratch n y) scratch) scratch) m;
        sweeps-are = w.sweeps-are ∙ ap (kept_sweeps r) sweeps-sides;
        exact-is = w.exact-is ∙ ap (λ (y : Bool). if_done x y false) exact-sides;
      }

-- two with the same parts are the same
pub cut-counted-one : (r q : Result CutCounted Refusal) → paper r ≡ paper q → (given no_cut r).count ≡ (given no_cut q).count
    → (given no_cut r).sweeps ≡ (given no_cut q).sweeps → (given no_cut r).exact ≡ (given no_cut q).exact → r ≡ q
cut-counted-one r q e f g h = result-one r q e (λ x y a b. same x y (rw (a, b) at f) (rw (a, b) at g) (rw (a, b) at h))
  where
    same : (x y : CutCounted) → x.count ≡ y.count → x.sweeps ≡ y.sweeps → x.exact ≡ y.exact → x ≡ y
    same x y f g h = rw (← f, ← g, ← h)

-- ---- the turned pairs

-- there are no more rows than columns
rows-least : (n : ℕ) (l : List ℕ) → cut_rows n l ≤ cut_columns n l
rows-least n l = pow_mono {i = side l n} {j = n - side l n} (omega (arith, min-le_left (length l) (n - length l), min-le_right (length l) (n - length l)))

pub cut-ceiling : (s : List Float) (n : ℕ) (l : List ℕ) → Ceiling 100 (cut_rows n l) (cut_sweeps s n l)
unfolding cut_sweeps
cut-ceiling s n l =
    subst (λ (k : ℕ). Ceiling 100 k (svd_sweeps (cells_of (2 ^ n) (cut_cell s n l)) (cut_rows n l) (cut_columns n l)))
    (sizes (cut_rows n l) (cut_columns n l) (rows-least n l)).0
    (svd-ceiling (cells_of (2 ^ n) (cut_cell s n l)) (cut_rows n l) (cut_columns n l))
