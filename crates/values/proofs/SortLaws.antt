-- The laws of `Sort` that the loops cite. Assumes nothing.
use mathlib.Core.Path.{◌≡◌, refl, sym, ap, ◌∙◌}
use mathlib.Core.Bool.{Bool, true, false, cond}
use mathlib.Core.List.{List, [], ◌∷◌, ◌++◌}
use Prim.Native.Nat.{ℕ, zero, suc, ◌+◌, ◌≤◌, ◌<◌}
use native.Mathlib.Numerals.{add-one}
use native.Mathlib.Omega.{arith}
use lib.Ieee.{Float, nan}
use lib.ListN.{length, get_or, take, drop}
use lib.Seq.{take-suc, take_at}
use Rattle.numbers.specs.Numbers.{total_less}
use Rattle.stable_order.specs.Push.{push_at}
use Rattle.stable_order.proofs.PushLaws.{push_at-snoc}
use Rattle.std.specs.Prelude.{unwrap_or}
use Rattle.std.specs.List.{position}
use Rattle.std.proofs.lemmas.List.Recursion.{is_position_or_len}
use Rattle.values.proofs.ListLaws.{position-or}
use Rattle.values.specs.Sort.{insert_down, sort_to, seat_of}

-- ---- the place

pub seat-found : (x : Float) (l : List Float) → unwrap_or (position (λ y. total_less y x) l) (length l) ≡ seat_of x l
unfolding seat_of
seat-found x l = position-or (λ y. total_less y x) l ∙ sym (is_position_or_len (seat_of x) (λ y. total_less y x) refl step l)
  where
    step : (y : Float) (s : List Float) → seat_of x (y ∷ s) ≡ cond (total_less y x) 0 (1 + seat_of x s)
    step y s =
        let h : suc (seat_of x s) ≡ 1 + seat_of x s = omega arith in
        ap (λ (n : ℕ). cond (total_less y x) 0 n) h

pub seat-le : (x : Float) (l : List Float) → seat_of x l ≤ length l
unfolding seat_of
seat-le x [] = omega arith
seat-le x (y ∷ l) = pick (total_less y x) (seat-le x l)
  where
    pick : (t : Bool) → seat_of x l ≤ length l → cond t 0 (suc (seat_of x l)) ≤ suc (length l)
    pick true h = omega arith
    pick false h = omega arith

-- the insertion is the value put at its place
insert-seat : (x : Float) (l : List Float) → insert_down x l ≡ take (seat_of x l) l ++ x ∷ drop (seat_of x l) l
unfolding insert_down seat_of
insert-seat x [] = refl
insert-seat x (y ∷ l) = pick (total_less y x) (insert-seat x l)
  where
    pick : (t : Bool) → insert_down x l ≡ take (seat_of x l) l ++ x ∷ drop (seat_of x l) l
        → cond t (x ∷ y ∷ l) (y ∷ insert_down x l)
        ≡ take (cond t 0 (suc (seat_of x l))) (y ∷ l) ++ x ∷ drop (cond t 0 (suc (seat_of x l))) (y ∷ l)
    pick true h = refl
    pick false h = ap {B = List Float} (λ r. y ∷ r) h

-- ---- the sort

pub sort-none : (values : List Float) → [] ≡ sort_to values 0
unfolding sort_to
sort-none values = refl

sort-next : (values : List Float) (k : ℕ) → sort_to values (k + 1) ≡ insert_down (get_or values k nan) (sort_to values k)
unfolding sort_to
sort-next values k = rw add-one

length-insert : (x : Float) (l : List Float) → length (insert_down x l) ≡ suc (length l)
unfolding insert_down
length-insert x [] = refl
length-insert x (y ∷ l) = pick (total_less y x) (length-insert x l)
  where
    pick : (t : Bool) → length (insert_down x l) ≡ suc (length l) → length (cond t (x ∷ y ∷ l) (y ∷ insert_down x l)) ≡ suc (suc (length l))
    pick true h = refl
    pick false h = ap suc h

pub length-sort : (values : List Float) (k : ℕ) → length (sort_to values k) ≡ k
unfolding sort_to
length-sort values zero = refl
length-sort values (suc k) = length-insert (get_or values k nan) (sort_to values k) ∙ ap suc (length-sort values k)

-- one value more, put at its place among the first k: the first k + 1 are then sorted
pub sort-more : (values l ys : List Float) (k p : ℕ) → k < length l → length ys ≡ k + 1 → take k l ≡ sort_to values k
    → p ≡ seat_of (get_or values k nan) (take k l) → ys ≡ push_at (take (k + 1) l) p (get_or values k nan)
    → take (k + 1) (ys ++ drop (k + 1) l) ≡ sort_to values (k + 1)
sort-more values l ys k p h e i s t =
    let x = get_or values k nan in
    let os = sort_to values k in
    let n : p ≡ seat_of x os = rw i at s in
    let w : p ≤ length os = omega (arith, seat-le x os) in
    let z : take (k + 1) l ≡ os ++ get_or l k nan ∷ [] = rw (add-one, take-suc l k nan, i) in
    let u : ys ≡ take p os ++ x ∷ drop p os = t ∙ rw z (push_at-snoc os (get_or l k nan) p x w) in
    take_at ys (drop (k + 1) l) (k + 1) e ∙ u ∙ rw n (sym (insert-seat x os)) ∙ sym (sort-next values k)
