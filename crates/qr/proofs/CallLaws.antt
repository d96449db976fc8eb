-- What each way out of a call makes of its contract, and that the contract leaves one outcome. Assumes nothing.
use mathlib.Core.Path.{◌≡◌, refl, sym, ap, subst, ◌∙◌}
use mathlib.Core.Bool.{true, false, ◌&&◌}
use mathlib.Core.List.{List, ◌++◌}
use mathlib.Core.Logic.{inl}
use Prim.Native.Nat.{ℕ, zero, suc, ◌*◌, ◌≤◌, ◌<◌, min}
use native.Mathlib.Nat.{mul_comm, mul-le-mul_right, le-mul_of_pos_right, mul-pos, le-min, min-le_left, min-le_right}
use native.Mathlib.Omega.{arith}
use lib.Ieee.{Float}
use lib.ListN.{length, take, drop}
use lib.Seq.{length-take-le}
use Rattle.std.specs.Prelude.{Result, Ok, Err}
use Rattle.answers.specs.declared.Refusal.{Refusal}
use Rattle.answers.proofs.Stopped.{refused, stopped-number}
use Rattle.answers.specs.Paper.{Reply, paper, table, done, after, and_then, if_done, if_worked, at_end, exactly, room}
use Rattle.answers.specs.declared.Refusal.TheVariants.{NotFinite}
use Rattle.answers.proofs.PaperLaws.{and_then-done, exactly-done, room-done, then-small, exactly-small, room_small, Ended, nine-ended, worked-new, worked-old, done-new, done-old, end-old}
use Rattle.matrix_sizes.specs.Sizes.{matrix_sizes, MatrixSized}
use Rattle.matrix_sizes.proofs.SizesLaws.{size-done, size_small}
use Rattle.values.specs.Lists.{all_finite}
use Rattle.complex.specs.Cells.{components}
use Rattle.complex.proofs.CellLaws.{components-small}
use Rattle.complex.specs.Zeros.{zeros, zeroed}
use Rattle.complex.proofs.ZerosLaws.{length-zeros}
use Rattle.qr_passes.specs.Room.{QrRoom}
use Rattle.qr_passes.proofs.GramSchmidtLaws.{zeroed-all}
use Rattle.qr_passes.specs.GramSchmidt.{Factors, factors, qr_factors}
use Rattle.qr.specs.Call.{q_need, r_need, scratch_need, qr_lengths, qr_refusal, qr_end, qr_answer, QrFinished, Factorized}

-- ---- the needed lengths

module _ (rows cols : ℕ) where
  pub rows-within : 1 ≤ cols → rows ≤ rows * cols
  rows-within h = le-mul_of_pos_right rows h

  -- no slice needs more numbers than the matrix has
  pub q-within : min rows cols * rows ≤ rows * cols
  q-within = omega (arith, mul-le-mul_right rows (min-le_right rows cols), mul_comm rows cols)

  pub r-within : min rows cols * cols ≤ rows * cols
  r-within = mul-le-mul_right cols (min-le_left rows cols)

-- the same where the code has the smaller side by a name of its own
module _ (rows cols : ℕ) {cap : ℕ} (e : cap ≡ min rows cols) where
  pub q-cells : cap * rows ≤ rows * cols
  q-cells = rw e (q-within rows cols)

  pub r-cells : cap * cols ≤ rows * cols
  r-cells = rw e (r-within rows cols)

  pub q-same : 2 * (cap * rows) ≡ q_need rows cols
  q-same = ap (λ (c : ℕ). 2 * (c * rows)) e

  pub r-same : 2 * (cap * cols) ≡ r_need rows cols
  r-same = ap (λ (c : ℕ). 2 * (c * cols)) e

-- ---- 6

-- what the slices have where no length is refused
pub record Long (rows cols a q r s : ℕ) : Type 0 where
  pub a-is : a ≡ 2 * (rows * cols)
  pub q-has : q_need rows cols ≤ q
  pub r-has : r_need rows cols ≤ r
  pub s-has : scratch_need rows ≤ s

lengths-done : (rows cols a q r s : ℕ) → (qr_lengths rows cols a q r s).0 ≡ 0 → Long rows cols a q r s
unfolding qr_lengths
lengths-done rows cols a q r s e =
    let x₀ = and_then-done (exactly 0 a (2 * (rows * cols))) _ e in
    let x₁ = and_then-done (room 1 q (q_need rows cols)) _ x₀.1 in
    let x₂ = and_then-done (room 2 r (r_need rows cols)) (room 3 s (scratch_need rows)) x₁.1 in
    record {
      a-is = exactly-done 0 a (2 * (rows * cols)) x₀.0;
      q-has = room-done 1 q (q_need rows cols) x₁.0;
      r-has = room-done 2 r (r_need rows cols) x₂.0;
      s-has = room-done 3 s (scratch_need rows) x₂.1;
    }

-- ---- 1, 6 and 7

module _ (a : List Float) (rows cols q r s : ℕ) where
  refusal-parts : (qr_refusal a rows cols q r s).0 ≡ 0 → ((matrix_sizes rows cols).0 ≡ 0) × ((qr_lengths rows cols (length a) q r s).0 ≡ 0)
  unfolding qr_refusal
  refusal-parts e =
      let x = and_then-done (matrix_sizes rows cols) (and_then (qr_lengths rows cols (length a) q r s) (components 0 a)) e in
      (x.0, (and_then-done (qr_lengths rows cols (length a) q r s) (components 0 a) x.1).0)

  pub refusal-sized : (qr_refusal a rows cols q r s).0 ≡ 0 → MatrixSized rows cols
  refusal-sized e = size-done rows cols (refusal-parts e).0

  pub refusal-long : (qr_refusal a rows cols q r s).0 ≡ 0 → Long rows cols (length a) q r s
  refusal-long e = lengths-done rows cols (length a) q r s (refusal-parts e).1

-- what a call that is not refused has, by the name that the code gives the smaller side
pub record Accepted (rows cols a q r s cap : ℕ) : Type 0 where
  pub sized : MatrixSized rows cols
  pub long : Long rows cols a q r s
  pub q-few : cap * rows ≤ 4096
  pub r-few : cap * cols ≤ 4096
  pub rows-few : rows ≤ 4096
  pub q-fits : 2 * (cap * rows) ≤ q
  pub r-fits : 2 * (cap * cols) ≤ r

pub accepted : (a : List Float) (rows cols q r s : ℕ) {cap : ℕ} → cap ≡ min rows cols → (qr_refusal a rows cols q r s).0 ≡ 0 → Accepted rows cols (length a) q r s cap
accepted a rows cols q r s e d =
    let z = refusal-sized a rows cols q r s d in
    let l = refusal-long a rows cols q r s d in
    record {
      sized = z;
      long = l;
      q-few = omega (arith, q-cells rows cols e, z.few);
      r-few = omega (arith, r-cells rows cols e, z.few);
      rows-few = omega (arith, rows-within rows cols z.some-columns, z.few);
      q-fits = omega (arith, q-same rows cols e, l.q-has);
      r-fits = omega (arith, r-same rows cols e, l.r-has);
    }

-- ---- the parts that are lent to the work

pub parts-room : (rows cols : ℕ) (a q r s : List Float) {nq nr ns : ℕ} → Long rows cols (length a) (length q) (length r) (length s) → nq ≡ q_need rows cols
    → nr ≡ r_need rows cols → ns ≡ scratch_need rows → QrRoom rows cols (min rows cols) (length a) (length (take nq q)) (length (take nr r)) (length (take ns s))
parts-room rows cols a q r s {nq} {nr} {ns} l e f g =
    record {
      a-is = omega (arith, l.a-is, mul_comm rows cols);
      q-is = length-take-le nq q (omega (arith, l.q-has)) ∙ e;
      r-is = length-take-le nr r (omega (arith, l.r-has)) ∙ f;
      v-is = length-take-le ns s (omega (arith, l.s-has)) ∙ g;
    }

pub room-some : {rows cols la lq lr lv : ℕ} → MatrixSized rows cols → QrRoom rows cols (min rows cols) la lq lr lv → 1 < lq
room-some {rows} {cols} s o =
    let h : 0 < min rows cols * rows = mul-pos (le-min s.some-rows s.some-columns) s.some-rows in
    omega (arith, o.q-is)

-- ---- 9

pub all-finite : (q r : List Float) (rank : ℕ) → all_finite q && all_finite r ≡ true → done ≡ qr_end (factors q r rank)
unfolding qr_end
all-finite q r rank h = rw h

pub not_finite : (q r : List Float) (rank : ℕ) → all_finite q && all_finite r ≡ false → (9, 0) ≡ qr_end (factors q r rank)
unfolding qr_end
not_finite q r rank h = rw h

pub settled : (q r : List Float) (rank : ℕ) → all_finite q && all_finite r ≡ true → QrFinished (factors q r rank) (Ok rank) q r
settled q r rank h =
    let e = all-finite q r rank h in
    let z : (qr_end (factors q r rank)).0 ≡ 0 = ap (λ (x : Reply). x.0) (sym e) in
    record { answer-is = e; rank_is = done-new _ rank 0 z; q-is = done-new _ q (zeros (length q)) z; r-is = done-new _ r (zeros (length r)) z }

pub cleared : (q r : List Float) (rank : ℕ) {q' r' : List Float} → all_finite q && all_finite r ≡ false → q' ≡ zeroed (length q) q → r' ≡ zeroed (length r) r
    → QrFinished (factors q r rank) (Err NotFinite) q' r'
cleared q r rank h f g =
    let e = not_finite q r rank h in
    let z : (qr_end (factors q r rank)).0 ≡ 0 → ⊥ = λ x. omega (arith, ap (λ (y : Reply). y.0) (sym e)) in
    record {
      answer-is = e;
      rank_is = done-old _ rank 0 z;
      q-is = f ∙ zeroed-all q refl ∙ done-old _ q (zeros (length q)) z;
      r-is = g ∙ zeroed-all r refl ∙ done-old _ r (zeros (length r)) z;
    }

pub finished_as : {f g : Factors} {x : Result ℕ Refusal} {q r : List Float} → f ≡ g → QrFinished f x q r → QrFinished g x q r
finished_as {f} {g} {x} {q} {r} e h = subst (λ (y : Factors). QrFinished y x q r) e h

-- ---- the call

-- 0 or 9
finite_number : (f : Factors) → Ended (qr_end f).0
unfolding qr_end
finite_number f = nine-ended (all_finite f.q && all_finite f.r) done (inl refl)

-- the needed part of a slice and the rest of it
part_end : (n m : ℕ) (new old part : List Float) → Ended n → part ≡ if_done n new (zeros (length new)) → length part ≡ m
    → part ++ drop m old ≡ at_end n (new ++ drop m old) (zeroed m old) old
unfolding zeroed
part_end zero m new old part h e l = ap (λ (x : List Float). x ++ drop m old) e
part_end (suc n) m new old part h e l =
    let k : zeros m ≡ zeros (length new) = ap zeros (sym l ∙ ap length e ∙ length-zeros (length new)) in
    ap (λ (x : List Float). x ++ drop m old) (e ∙ sym k) ∙ worked-new (suc n) (zeros m ++ drop m old) old h

scratch-end : (n m : ℕ) (old part : List Float) → Ended n → part ≡ zeros m → part ++ drop m old ≡ if_worked n (zeroed m old) old
unfolding zeroed
scratch-end n m old part h e =
    ap (λ (x : List Float). x ++ drop m old) e ∙ worked-new n (zeros m ++ drop m old) old h

-- a refusal's number is at most 7
lengths-small : (rows cols a q r s : ℕ) → (qr_lengths rows cols a q r s).0 < 8
unfolding qr_lengths
lengths-small rows cols a q r s =
    then-small (exactly 0 a (2 * (rows * cols))) _ (exactly-small 0 a (2 * (rows * cols)))
    (then-small (room 1 q (q_need rows cols)) _ (room_small 1 q (q_need rows cols))
    (then-small (room 2 r (r_need rows cols)) _ (room_small 2 r (r_need rows cols)) (room_small 3 s (scratch_need rows))))

refusal-small : (a : List Float) (rows cols q r s : ℕ) → (qr_refusal a rows cols q r s).0 < 8
unfolding qr_refusal
refusal-small a rows cols q r s =
    then-small (matrix_sizes rows cols) _ (size_small rows cols)
    (then-small (qr_lengths rows cols (length a) q r s) (components 0 a) (lengths-small rows cols (length a) q r s) (components-small 0 a))

module _ (a : List Float) (rows cols : ℕ) (q r s : List Float) where
  pub call-refused : (e : Refusal) → table e ≡ qr_refusal a rows cols (length q) (length r) (length s) → Factorized a rows cols q r s (Err e) q r s
  unfolding qr_answer
  call-refused x e =
      let n = stopped-number x in
      let l : (table x).0 < 8 = rw e (refusal-small a rows cols (length q) (length r) (length s)) in
      record {
        answer-is = refused x _ (qr_end (qr_factors a rows cols)) e;
        rank_is = done-old _ (qr_factors a rows cols).rank 0 n;
        q-is = end-old _ ((qr_factors a rows cols).q ++ drop (q_need rows cols) q) (zeroed (q_need rows cols) q) q n l;
        r-is = end-old _ ((qr_factors a rows cols).r ++ drop (r_need rows cols) r) (zeroed (r_need rows cols) r) r n l;
        scratch-is = worked-old _ (zeroed (scratch_need rows) s) s n l;
      }

  pub call-worked : (x : Result ℕ Refusal) {q₁ r₁ s₁ : List Float} {nq nr ns : ℕ} → qr_answer a rows cols (length q) (length r) (length s) ≡ qr_end (qr_factors a rows cols)
      → nq ≡ q_need rows cols → nr ≡ r_need rows cols → ns ≡ scratch_need rows → QrFinished (qr_factors a rows cols) x q₁ r₁
      → length q₁ ≡ nq → length r₁ ≡ nr → s₁ ≡ zeros ns
      → Factorized a rows cols q r s x (q₁ ++ drop nq q) (r₁ ++ drop nr r) (s₁ ++ drop ns s)
  call-worked x {q₁} {r₁} {s₁} p e f g w lq lr z =
      let n = finite_number (qr_factors a rows cols) in
      let u : (qr_end (qr_factors a rows cols)).0 ≡ (paper x).0 = ap (λ (y : Reply). y.0) (sym w.answer-is) in
      let m : Ended (paper x).0 = rw u at n in
      record {
        answer-is = w.answer-is ∙ sym p;
        rank_is = rw u at w.rank_is;
        q-is = rw e (part_end (paper x).0 (q_need rows cols) (qr_factors a rows cols).q q q₁ m (rw u at w.q-is) (lq ∙ e));
        r-is = rw f (part_end (paper x).0 (r_need rows cols) (qr_factors a rows cols).r r r₁ m (rw u at w.r-is) (lr ∙ f));
        scratch-is = rw g (scratch-end (paper x).0 (scratch_need rows) s s₁ m (z ∙ ap zeros g));
      }

  -- after a check that passed
  pub call-passed : (qr_refusal a rows cols (length q) (length r) (length s)).0 ≡ 0
      → qr_answer a rows cols (length q) (length r) (length s) ≡ qr_end (qr_factors a rows cols)
  unfolding qr_answer
  call-passed e = ap (λ (n : ℕ). after n (qr_refusal a rows cols (length q) (length r) (length s)) (qr_end (qr_factors a rows cols))) e
