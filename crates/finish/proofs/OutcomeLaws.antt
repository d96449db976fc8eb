-- The finish at each way out, and that its contract leaves one outcome. Assumes nothing.
use mathlib.Core.Path.{◌≡◌, refl, sym, ap, ◌∙◌}
use mathlib.Core.Bool.{Bool, true, false, not, cond}
use mathlib.Core.List.{List, [], ◌∷◌, ◌++◌, append_assoc, append-nil}
use mathlib.Core.Logic.{inl, inr}
use Prim.Native.Nat.{ℕ, zero, suc, ◌-◌, ◌≤◌, ◌<◌}
use native.Mathlib.Omega.{arith}
use borrow.Author.Tests.{eq-eqb, ne_eqb, ltb-false}
use borrow.Rule.Slice.PartMut.{put_mid}
use lib.Dec.{eqb, ltb}
use lib.Ieee.{Float, nan, binary64, mul, div}
use lib.ListN.{length, get_or, take, drop, length-append, length-drop, drop_of_length-le}
use lib.Seq.{length-take-le, take_at, drop_at, drop-length}
use Rattle.std.specs.Prelude.{Result, Ok, Err, Option, Some, None, if◌then◌else◌}
use Rattle.answers.specs.Paper.{Reply, table, done, refuse, if_done}
use Rattle.answers.proofs.Stopped.{stopped-number}
use Rattle.answers.specs.declared.Refusal.{Refusal}
use Rattle.answers.specs.declared.Refusal.TheVariants.{NoWeight, NotFinite}
use Rattle.answers.proofs.PaperLaws.{refuse-done, stays, done-old, end-old, end-worked, Ended, nine-ended}
use Rattle.numbers.specs.Numbers.{one_float, allowed}
use Rattle.numbers.specs.Root.{sqrt_of}
use Rattle.complex.specs.Zeros.{zero_float, zeros, zeroed}
use Rattle.values.specs.Lists.{values_allowed, all_finite, kept_above, squares_from, scaled_by, minus_zero}
use Rattle.values.proofs.ListLaws.{kept-front, kept-le, length-scaled}
use Rattle.values.specs.Sort.{sorted_down}
use Rattle.values.proofs.SortLaws.{length-sort}
use Rattle.finish.specs.declared.Finished.{Finished}
use Rattle.exact_roots.specs.Exact.{exact_root}
use Rattle.finish.specs.Finish.{value_floor, floor_of, normalised, scale_exact, kept_values, finish_sorted, sorted_reply, finish_of, finish_reply, padded, finish_refusal, finish_answer}
use Rattle.finish.specs.Outcome.{SortedOutcome, MarkedOutcome, FinishedOutcome, Outcome}

-- ---- the floor and the scaling

pub floor-none : (s : List Float) → length s ≡ 0 → mul binary64 zero_float value_floor ≡ floor_of s
unfolding floor_of
floor-none [] h = refl
floor-none (x ∷ s) h = absurd (omega arith)

pub floor-some : (s : List Float) → (length s ≡ 0 → ⊥) → mul binary64 (get_or s 0 nan) value_floor ≡ floor_of s
unfolding floor_of
floor-some [] h = absurd (h refl)
floor-some (x ∷ s) h = refl

pub scaled_made : (l : List Float) {total root : Float} {ys : List Float} → total ≡ squares_from minus_zero l → root ≡ sqrt_of total
    → ys ≡ scaled_by (div binary64 one_float root) l → ys ≡ normalised l
unfolding normalised
scaled_made l e f g = rw (← e, ← f) g

-- the first n values scaled in their place, and whether all of them are finite then
pub scaled-front : (n : ℕ) (s v : List Float) {total root : Float} {b : Bool} → n ≤ length s → length v ≡ length (take n s)
    → total ≡ squares_from minus_zero (take n s) → root ≡ sqrt_of total → v ≡ scaled_by (div binary64 one_float root) (take n s)
    → b ≡ all_finite (take n (v ++ drop n s)) → (v ++ drop n s ≡ normalised (take n s) ++ drop n s) × (b ≡ all_finite (normalised (take n s)))
scaled-front n s v h k e f g i =
    let m = scaled_made (take n s) e f g in
    let l : length v ≡ n = k ∙ length-take-le n s h in
    (ap (λ (y : List Float). y ++ drop n s) m, i ∙ ap all_finite (take_at v (drop n s) n l ∙ m))

pub exact-made : (l : List Float) {total : Float} {b : Bool} → total ≡ squares_from minus_zero l → b ≡ exact_root total → b ≡ scale_exact l
unfolding scale_exact
exact-made l e f = f ∙ ap exact_root e

length-finish : (s : List Float) → length (finish_sorted s) ≡ length (kept_values s)
unfolding finish_sorted normalised
length-finish s = length-scaled (div binary64 one_float (sqrt_of (squares_from minus_zero (kept_values s)))) (kept_values s)

-- ---- the answer

reply-8 : (s : List Float) → length (kept_values s) ≡ 0 → sorted_reply s ≡ (8, 0)
unfolding sorted_reply
reply-8 s h = rw (eq-eqb _ _ h)

reply-9 : (s : List Float) → (length (kept_values s) ≡ 0 → ⊥) → all_finite (finish_sorted s) ≡ false → sorted_reply s ≡ (9, 0)
unfolding sorted_reply
reply-9 s h e = rw (ne_eqb _ _ h, e)

reply-0 : (s : List Float) → (length (kept_values s) ≡ 0 → ⊥) → all_finite (finish_sorted s) ≡ true → sorted_reply s ≡ done
unfolding sorted_reply
reply-0 s h e = rw (ne_eqb _ _ h, e)

-- it is 0, 8 or 9
pub reply-worked : (s : List Float) → Ended (sorted_reply s).0
unfolding sorted_reply
reply-worked s = pick (eqb (length (kept_values s)) 0) _ (nine-ended (all_finite (finish_sorted s)) done (inl refl))
  where
    pick : (a : Bool) (r : Reply) → Ended r.0 → Ended (refuse a (8, 0) r).0
    pick true r h = inr (omega arith, omega arith)
    pick false r h = h

-- ---- values that are sorted

length-take-most : (n : ℕ) (l : List Float) → length (take n l) ≤ n
length-take-most zero l = omega arith
length-take-most (suc n) [] = omega arith
length-take-most (suc n) (x ∷ l) = omega (arith, length-take-most n l)

zeroed-whole : (m : ℕ) (l : List Float) → length l ≤ m → zeroed m l ≡ zeros m
unfolding zeroed
zeroed-whole m l h = rw (drop_of_length-le l h, append-nil)

-- what a mark says of the test it stands under
none-false : (b x : Bool) → cond b (Some x) None ≡ None → b ≡ false
none-false true x e = cc
none-false false x e = refl

some-true : (b x y : Bool) → cond b (Some x) None ≡ Some y → (b ≡ true) × (x ≡ y)
some-true true x y e = (refl, cc)
some-true false x y e = cc

-- the floor that the code found, and how many it keeps
module _ (s : List Float) (f : Float) (n : ℕ) (floor : f ≡ floor_of s) (count : n ≡ length (kept_above f s)) where
  count-is : n ≡ length (kept_values s)
  unfolding kept_values
  count-is = count ∙ ap (λ (g : Float). length (kept_above g s)) floor

  front-is : take n s ≡ kept_values s
  unfolding kept_values
  front-is = rw (count, floor) (kept-front (floor_of s) s)

  pub within : n ≤ length s
  within = rw count (kept-le f s)

  pub sorted_none : n ≡ 0 → (end : List Float) → end ≡ zeroed (length s) s → SortedOutcome s (Err NoWeight) end
  sorted_none z end e =
      let r = reply-8 s (sym count-is ∙ z) in
      record { answer = sym r; count = rw r; values = rw r e; exact-is = rw r }

  module _ (some : n ≡ 0 → ⊥) where
    left : length (kept_values s) ≡ 0 → ⊥
    left h = some (count-is ∙ h)

    -- the scaled values are not all finite
    pub sorted-infinite : {r : Option Bool} → r ≡ if all_finite (normalised (take n s)) then Some (scale_exact (take n s)) else None → r ≡ None → (mid end : List Float) → length mid ≡ length s → end ≡ zeroed (length s) mid
        → SortedOutcome s (Err NotFinite) end
    unfolding finish_sorted
    sorted-infinite e z mid end l g =
        let r = reply-9 s left (rw front-is at (none-false (all_finite (normalised (take n s))) _ (sym e ∙ z))) in
        let w : zeroed (length s) mid ≡ zeroed (length s) s = zeroed-whole (length s) mid (omega arith) ∙ sym (zeroed-whole (length s) s (omega arith)) in
        record { answer = sym r; count = rw r; values = rw r (g ∙ w); exact-is = rw r }

    module _ (mid ys : List Float) (scales : mid ≡ normalised (take n s) ++ drop n s) where
      front : mid ≡ finish_sorted s ++ drop n s
      unfolding finish_sorted
      front = rw front-is at scales

      length-front' : length (finish_sorted s) ≡ n
      length-front' = length-finish s ∙ sym count-is

      pub length-mid : length mid ≡ length s
      length-mid = rw front (length-append (finish_sorted s) (drop n s) ∙ omega (arith, length-front', length-drop n s, within))

      part : length (take (length mid - n) (drop n mid)) ≤ length s - n
      part = omega (arith, length-take-most (length mid - n) (drop n mid), length-mid)

      -- the rest of the needed part is +0.0
      put : ys ≡ zeroed (length s - n) (take (length mid - n) (drop n mid)) → put_mid n (length mid - n) mid ys ≡ padded (length s) (finish_sorted s) s
      unfolding padded
      put g =
          let h : length (drop n mid) ≤ length mid - n = omega (arith, length-drop n mid) in
          let d : drop (length mid - n) (drop n mid) ≡ [] = drop_of_length-le (drop n mid) h in
          let t : take n mid ≡ finish_sorted s = rw front (take_at (finish_sorted s) (drop n s) n length-front') in
          rw (d, t, g, zeroed-whole (length s - n) (take (length mid - n) (drop n mid)) part, length-front', drop-length s) (sym (append_assoc (finish_sorted s) (zeros (length s - n)) []))

      pub sorted-done : {r : Option Bool} (x : Bool) → r ≡ if all_finite (normalised (take n s)) then Some (scale_exact (take n s)) else None → r ≡ Some x
          → ys ≡ zeroed (length s - n) (take (length mid - n) (drop n mid))
          → SortedOutcome s (Ok (record { count = n; exact = x })) (put_mid n (length mid - n) mid ys)
      unfolding finish_sorted
      sorted-done x e z g =
          let t = some-true (all_finite (normalised (take n s))) _ _ (sym e ∙ z) in
          let r = reply-0 s left (rw front-is at t.0) in
          record { answer = sym r; count = rw r (sym length-front'); values = rw r (put g); exact-is = rw r (sym t.1 ∙ ap scale_exact front-is) }

-- ---- values that need no check

if_done-append : (x : ℕ) (a b t : List Float) → if_done x a b ++ t ≡ if_done x (a ++ t) (b ++ t)
if_done-append zero a b t = refl
if_done-append (suc x) a b t = refl

-- what is padded in a list as long as is needed, in a longer one
padded-longer : (s l old : List Float) → padded (length s) l s ++ drop (length s) old ≡ padded (length s) l old
unfolding padded
padded-longer s l old = rw (drop-length s, append-nil, append_assoc)

zeroed-longer : (s old : List Float) → zeroed (length s) s ++ drop (length s) old ≡ zeroed (length s) old
unfolding zeroed
zeroed-longer s old = rw (drop-length s, append-nil)

longer : (n : ℕ) (s old e : List Float) (x : ℕ) (l : List Float) → length s ≡ n → e ≡ if_done x (padded (length s) l s) (zeroed (length s) s)
    → e ++ drop n old ≡ if_done x (padded n l old) (zeroed n old)
longer n s old e x l h i = rw (← h, i, if_done-append, padded-longer, zeroed-longer)

-- the values were sorted into the front of the output, and finished there
pub finished-made : (values old s e : List Float) (r : Result Finished Refusal) → s ≡ sorted_down values
    → SortedOutcome (take (length values) (s ++ drop (length values) old)) r e
    → MarkedOutcome values old r (e ++ drop (length values) (s ++ drop (length values) old))
finished-made values old s e r i o =
    let n = length values in
    let l : length s ≡ n = rw i (length-sort values n) in
    let t : take n (s ++ drop n old) ≡ s = take_at s (drop n old) n l in
    let u : drop n (s ++ drop n old) ≡ drop n old = drop_at s (drop n old) n l in
    let p : SortedOutcome (sorted_down values) r e = rw (t, i) at o in
    record {
      answer = p.answer;
      count = p.count;
      out = rw u (longer n (sorted_down values) old e (finish_reply values).0 (finish_of values) (length-sort values n) p.values);
      exact-is = p.exact-is;
    }

-- ---- the entry point

allowed-small : (i : ℕ) (l : List Float) → (values_allowed i l).0 < 8
unfolding values_allowed
allowed-small i [] = omega arith
allowed-small i (x ∷ l) = pick (allowed x) (allowed-small (suc i) l)
  where
    pick : (t : Bool) → (values_allowed (suc i) l).0 < 8 → (refuse (not t) (7, i) (values_allowed (suc i) l)).0 < 8
    pick true h = h
    pick false h = omega arith

refusal-small : (values : List Float) (room : ℕ) → (finish_refusal values room).0 < 8
unfolding finish_refusal
refusal-small values room = pick (ltb 64 (length values)) (ltb room (length values)) (allowed-small 0 values)
  where
    pick : (a b : Bool) → (values_allowed 0 values).0 < 8 → (refuse a (1, 0) (refuse b (6, 1) (values_allowed 0 values))).0 < 8
    pick true b h = omega arith
    pick false true h = omega arith
    pick false false h = h

-- a call that is not refused has the room
pub refusal-room : (values : List Float) (room : ℕ) → (finish_refusal values room).0 ≡ 0 → length values ≤ room
unfolding finish_refusal
refusal-room values room e =
    let a = refuse-done (ltb 64 (length values)) 0 0 (refuse (ltb room (length values)) (6, 1) (values_allowed 0 values)) e in
    ltb-false room (length values) (refuse-done (ltb room (length values)) 5 1 (values_allowed 0 values) a.1).0

-- refused: nothing lent changes
pub outcome-refused : (values old : List Float) (e : Refusal) → table e ≡ finish_refusal values (length old) → Outcome values old (Err e) old
outcome-refused values old r e =
    let n : (finish_refusal values (length old)).0 ≡ 0 → ⊥ = λ z. stopped-number r (ap (λ (x : Reply). x.0) e ∙ z) in
    let s = sym (stays (finish_refusal values (length old)) (finish_reply values) n) in
    record {
      answer = e ∙ sym s;
      count = rw s (done-old _ _ _ n);
      out = rw s (end-old _ _ _ _ n (refusal-small values (length old)));
    }

pub outcome-finished : (values old : List Float) (r : Result ℕ Refusal) (end : List Float) → finish_answer values old ≡ finish_reply values
    → FinishedOutcome values old r end → Outcome values old r end
outcome-finished values old r end e o =
    record {
      answer = o.answer ∙ sym e;
      count = rw e o.count;
      out = rw e (o.out ∙ end-worked _ _ _ old (reply-worked (sorted_down values)));
    }
