-- Laws of a cut's sides: an accepted list, the masks and sizes in the two cases, and the smaller side's call at each way out.
-- Assumes nothing.
use mathlib.Core.Bool.{true, false, cond}
use mathlib.Core.Path.{◌≡◌, refl, sym, ap, ◌∙◌}
use mathlib.Core.Logic.{⊎_elim}
use mathlib.Core.List.{List, [], ◌∷◌, ◌++◌}
use Prim.Native.Nat.{ℕ, suc, ◌+◌, ◌-◌, ◌^◌, ◌≤◌, ◌<◌, min}
use native.Mathlib.Numerals.{add-one}
use native.Mathlib.Nat.{min-eq_left, min-eq_right, le_refl}
use native.Mathlib.Decide.{le_ind}
use native.Mathlib.Omega.{arith}
use borrow.Author.Tests.{le-leb, lt-leb, eqb-false, ltb-false}
use lib.Arith.{lt_of_le-ne}
use lib.Dec.{eqb}
use lib.ListN.{length, set, take, drop, length-append, length-set}
use lib.Seq.{set_at, drop-cons, append_snoc, take_at}
use Rattle.answers.specs.Paper.{Answer, Reply, paper, done, refuse}
use Rattle.answers.proofs.PaperLaws.{refuse-done, and_then-done, done-new}
use Rattle.submasks.proofs.SubmaskLaws.{submask_count, le-or-lt, others-lt, others-others}
use Rattle.submasks.specs.Submasks.{others}
use Rattle.qubits.specs.Lists.{stands, qubit_set, subsystem}
use Rattle.qubits.specs.Spread.{named, other_qubits, unless}
use Rattle.qubits.proofs.NamedLaws.{is-listed, named-lt, named_count, others-count}
use Rattle.qubits.proofs.SpreadLaws.{other-named, other-more}
use Rattle.qubits.proofs.OtherLaws.{others-length}
use Rattle.qubit_offsets.specs.Calls.{fronted}
use Rattle.qubit_offsets.proofs.CallLaws.{length-fronted}
use Rattle.complex.proofs.Loops.{cond_yes, cond_no}
use Rattle.cut_sides.specs.Sides.{cut_sizes, cut_refusal, Parted, side, named_rows, row_mask, column_mask, side_list, others_short, side_answer, SmallerSide, side_part}

-- ---- an accepted list

pub is-parted : (l : List ℕ) (n cap : ℕ) → (cut_refusal l n cap).0 ≡ 0 → Parted l n
is-parted l n cap e =
    let s = (and_then-done (cut_sizes n cap) (subsystem n l) e).1 in
    let q = and_then-done (qubit_set n l) (refuse (eqb (length l) n) (5, 0) done) s in
    let p = is-listed n l q.0 in
    record {
      listed = p;
      part = lt_of_le-ne p.short (eqb-false (length l) n (refuse-done (eqb (length l) n) 4 0 done q.1).0);
    }

-- ---- the two cases of the side

module _ (l : List ℕ) (n : ℕ) where
  pub named-yes : length l ≤ n - length l → named_rows l n ≡ true
  named-yes h = le-leb (length l) (n - length l) h

  pub named-no : n - length l < length l → named_rows l n ≡ false
  named-no h = lt-leb (length l) (n - length l) h

-- the masks and sizes of an accepted cut: the columns' mask is what the rows' has not, and each has as many submasks as its side's size
pub record TwoSides (l : List ℕ) (n : ℕ) : Type 0 where
  pub row_lt : row_mask l n < 2 ^ n
  pub column-lt : column_mask l n < 2 ^ n
  pub oth : column_mask l n ≡ others n (row_mask l n)
  pub rows : submask_count n (row_mask l n) ≡ 2 ^ side l n
  pub columns : submask_count n (column_mask l n) ≡ 2 ^ (n - side l n)

pub two-sides : (l : List ℕ) (n : ℕ) → Parted l n → TwoSides l n
two-sides l n p =
    let lt = named-lt n l p.listed in
    let mc = named_count n l p.listed in
    let oc = others-count n l p.listed in
    ⊎_elim
    (λ (h : length l ≤ n - length l).
    let t = named-yes l n h in
    let s : min (length l) (n - length l) ≡ length l = min-eq_left h in
    record { row_lt = rw t lt; column-lt = rw t (others-lt n (named l)); oth = rw t; rows = rw (t, s) mc; columns = rw (t, s) oc })
    (λ (h : n - length l < length l).
    let t = named-no l n h in
    let g : n - length l ≤ length l = omega arith in
    let s : min (length l) (n - length l) ≡ n - length l = min-eq_right g in
    let d : n - (n - length l) ≡ length l = omega (arith, p.part) in
    record {
      row_lt = rw t (others-lt n (named l));
      column-lt = rw t lt;
      oth = rw t (sym (others-others n (named l) lt));
      rows = rw (t, s) oc;
      columns = rw (t, s, d) mc;
    })
    (le-or-lt (length l) (n - length l))

-- ---- the loop that writes the others: those below q stand at the front of what was o

pub fronted-more : (v o : List ℕ) (x : ℕ) → length v < length o → set (fronted v o) (length v) x ≡ fronted (v ++ x ∷ []) o
fronted-more v o x h =
    let e : length (v ++ x ∷ []) ≡ suc (length v) = length-append v (x ∷ []) ∙ add-one (length v) in
    rw (drop-cons o (length v) 0 h, set_at v _ (drop (suc (length v)) o) x (length v) refl, e) (sym (append_snoc v x (drop (suc (length v)) o)))

other-less : (l : List ℕ) (q n : ℕ) → q ≤ n → length (other_qubits q l) ≤ length (other_qubits n l)
unfolding other_qubits
other-less l q n h =
    le_ind (λ (k : ℕ). length (other_qubits q l) ≤ length (other_qubits k l)) (le_refl (length (other_qubits q l)))
    (λ k g i. omega (arith, i, length-append (other_qubits k l) (unless (stands k l) k))) n h

pub record Risen (l : List ℕ) (n : ℕ) (o : List ℕ) (q j : ℕ) (out : List ℕ) : Type 0 where
  pub more : q ≤ n
  pub count : j ≡ length (other_qubits q l)
  pub long : length out ≡ length o
  pub front : out ≡ fronted (other_qubits q l) o

module _ (l : List ℕ) (n : ℕ) (o : List ℕ) where
  pub risen-begin : Risen l n o 0 0 o
  unfolding other_qubits
  risen-begin = record { more = omega arith; count = refl; long = refl; front = refl }

  module _ (q j : ℕ) (out : List ℕ) (i : Risen l n o q j out) where
    module _ (h : q < n) (room : length (other_qubits n l) ≤ length o) (d : stands q l ≡ false) where
      grown : length (other_qubits (q + 1) l) ≡ length (other_qubits q l) + 1
      grown = ap length (other-more q l d) ∙ length-append (other_qubits q l) (q ∷ [])

      pub risen-in : j < length o
      risen-in = omega (arith, i.count, grown, other-less l (q + 1) n (omega arith))

      pub risen-one : Risen l n o (q + 1) (j + 1) (set out j q)
      risen-one =
          let g : length (other_qubits q l) < length o = omega (arith, risen-in, i.count) in
          record {
            more = omega arith;
            count = omega (arith, i.count, grown);
            long = length-set out j q ∙ i.long;
            front =
                rw (i.front, i.count)
                (fronted-more (other_qubits q l) o q g ∙ ap (λ (v : List ℕ). fronted v o) (sym (other-more q l d)));
          }

    pub risen-none : q < n → stands q l ≡ true → Risen l n o (q + 1) j out
    risen-none h d =
        let e : other_qubits (q + 1) l ≡ other_qubits q l = other-named q l d in
        record { more = omega arith; count = rw e i.count; long = i.long; front = rw e i.front }

-- ---- the smaller side's calls

-- the sides that 6 does not refuse
pub room-done : (l : List ℕ) (n cap room : ℕ) → (side_answer l n cap room).0 ≡ 0 → n - length l < length l → Parted l n × (n - length l ≤ room)
room-done l n cap room e h =
    let a = and_then-done (cut_refusal l n cap) (refuse (others_short l n room) (6, 1) done) e in
    let b = (refuse-done (others_short l n room) 5 1 done a.1).0 in
    let t = named-no l n h in
    (is-parted l n cap a.0, ltb-false room (n - length l) (rw t at b))

pub side-parted : (l : List ℕ) (n cap room : ℕ) → (side_answer l n cap room).0 ≡ 0 → Parted l n
side-parted l n cap room e = is-parted l n cap (and_then-done (cut_refusal l n cap) (refuse (others_short l n room) (6, 1) done) e).0

-- THE TWO CALLS TOGETHER: after `smaller_side` answered 0, `side_part` of what it left hands back the smaller side's list
pub part-of-side : (l : List ℕ) (n cap : ℕ) (o : List ℕ) (r : Answer) (end : List ℕ) → SmallerSide l n cap o r end → (paper r).0 ≡ 0
    → side_part l n cap end ≡ side_list l n
part-of-side l n cap o r end s z =
    let a : (side_answer l n cap (length o)).0 ≡ 0 = sym (ap (λ (x : Reply). x.0) s.answer) ∙ z in
    let w = s.numbers ∙ sym (done-new (side_answer l n cap (length o)).0 (cond (named_rows l n) o (fronted (other_qubits n l) o)) o a) in
    let N = cond (named_rows l n) l (take (n - length l) end) in
    ⊎_elim
    (λ (h : length l ≤ n - length l).
    let t = named-yes l n h in
    let e : end ≡ o = w ∙ cond_yes o (fronted (other_qubits n l) o) t in
    sym (done-new (side_answer l n cap (length end)).0 N [] (rw e a)) ∙ cond_yes l (take (n - length l) end) t ∙ sym (cond_yes l (other_qubits n l) t))
    (λ (h : n - length l < length l).
    let t = named-no l n h in
    let e : end ≡ fronted (other_qubits n l) o = w ∙ cond_no o (fronted (other_qubits n l) o) t in
    let p = room-done l n cap (length o) a h in
    let k : length (other_qubits n l) ≡ n - length l = others-length n l p.0.listed in
    let g : length end ≡ length o = ap length e ∙ length-fronted (other_qubits n l) o (omega (arith, p.1)) in
    let f : take (n - length l) end ≡ other_qubits n l
    = ap (take (n - length l)) e ∙ take_at (other_qubits n l) (drop (length (other_qubits n l)) o) (n - length l) k in
    sym (done-new (side_answer l n cap (length end)).0 N [] (rw g a)) ∙ cond_no l (take (n - length l) end) t ∙ f ∙ sym (cond_no l (other_qubits n l) t))
    (le-or-lt (length l) (n - length l))
