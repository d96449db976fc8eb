-- Laws of what `specs/Order.antt` defines. Assumes nothing.
use mathlib.Core.Path.{◌≡◌, refl, sym, ap, ◌∙◌}
use mathlib.Core.Bool.{Bool, true, false, cond}
use mathlib.Core.List.{List, [], ◌∷◌, ◌++◌}
use Prim.Native.Nat.{ℕ, zero, suc, ◌+◌, ◌≤◌, ◌<◌}
use native.Mathlib.Numerals.{add-one}
use native.Mathlib.Omega.{arith}
use lib.ListN.{length, get_or, take, drop, drop_of_length-le}
use lib.Seq.{drop-cons, take-suc, take_at}
use lib.Ieee.{Float, nan, lt}
use Rattle.stable_order.specs.Places.{place, places_of, places_in, Below, Places}
use Rattle.stable_order.proofs.PlacesLaws.{below_more, places-back, length-places_of, places_of-append, places_of-take, places_of-drop}
use Rattle.stable_order.specs.Push.{push_at}
use Rattle.stable_order.proofs.PushLaws.{push_at-snoc}
use Rattle.stable_order.specs.Order.{inserted, order_to, seat_of}

-- ---- laws

inserted_below : (values : List Float) (x n : ℕ) (l : List ℕ) → x < n → Below n l → Below n (inserted values x l)
unfolding inserted
inserted_below values x n [] h b = (h, tt)
inserted_below values x n (y ∷ ys) h b = pick (lt (get_or values y nan) (get_or values x nan)) (inserted_below values x n ys h b.1)
  where
    pick : (t : Bool) → Below n (inserted values x ys) → Below n (cond t (x ∷ y ∷ ys) (y ∷ inserted values x ys))
    pick true r = (h, b)
    pick false r = (b.0, r)

pub order_below : (values : List Float) (k : ℕ) → Below k (order_to values k)
unfolding order_to
order_below values zero = tt
order_below values (suc k) =
    inserted_below values k (suc k) (order_to values k) (omega arith) (below_more k (suc k) (order_to values k) (omega arith) (order_below values k))

length_inserted : (values : List Float) (x : ℕ) (l : List ℕ) → length (inserted values x l) ≡ suc (length l)
unfolding inserted
length_inserted values x [] = refl
length_inserted values x (y ∷ ys) = pick (lt (get_or values y nan) (get_or values x nan)) (length_inserted values x ys)
  where
    pick : (t : Bool) → length (inserted values x ys) ≡ suc (length ys) → length (cond t (x ∷ y ∷ ys) (y ∷ inserted values x ys)) ≡ suc (suc (length ys))
    pick true h = refl
    pick false h = ap suc h

pub length-order : (values : List Float) (k : ℕ) → length (order_to values k) ≡ k
unfolding order_to
length-order values zero = refl
length-order values (suc k) = length_inserted values k (order_to values k) ∙ ap suc (length-order values k)

pub seat-le : (values : List Float) (x : ℕ) (l : List ℕ) → seat_of values x l ≤ length l
unfolding seat_of
seat-le values x [] = omega arith
seat-le values x (y ∷ ys) = pick (lt (get_or values y nan) (get_or values x nan)) (seat-le values x ys)
  where
    pick : (t : Bool) → seat_of values x ys ≤ length ys → cond t 0 (suc (seat_of values x ys)) ≤ suc (length ys)
    pick true h = omega arith
    pick false h = omega arith

-- the insertion is the place put at its seat
inserted-seat : (values : List Float) (x : ℕ) (l : List ℕ)
    → inserted values x l ≡ take (seat_of values x l) l ++ x ∷ drop (seat_of values x l) l
unfolding inserted seat_of
inserted-seat values x [] = refl
inserted-seat values x (y ∷ ys) = pick (lt (get_or values y nan) (get_or values x nan)) (inserted-seat values x ys)
  where
    pick : (t : Bool) → inserted values x ys ≡ take (seat_of values x ys) ys ++ x ∷ drop (seat_of values x ys) ys
        → cond t (x ∷ y ∷ ys) (y ∷ inserted values x ys)
        ≡ take (cond t 0 (suc (seat_of values x ys))) (y ∷ ys) ++ x ∷ drop (cond t 0 (suc (seat_of values x ys))) (y ∷ ys)
    pick true h = refl
    pick false h = ap {B = List ℕ} (λ r. y ∷ r) h

-- the search for the seat: past the end, at a lesser value, and past any other
pub seat-end : (values : List Float) (x : ℕ) (l : List ℕ) (j : ℕ) → length l ≤ j → seat_of values x (drop j l) ≡ 0
unfolding seat_of
seat-end values x l j h = rw (drop_of_length-le l h)

pub seat-here : (values : List Float) (x : ℕ) (l : List ℕ) (j : ℕ) {y : ℕ} → j < length l → y ≡ get_or l j 0
    → lt (get_or values y nan) (get_or values x nan) ≡ true → seat_of values x (drop j l) ≡ 0
unfolding seat_of
seat-here values x l j h e t = rw (drop-cons l j 0, ← e, t)

pub seat-past : (values : List Float) (x : ℕ) (l : List ℕ) (j : ℕ) {y : ℕ} → j < length l → y ≡ get_or l j 0
    → lt (get_or values y nan) (get_or values x nan) ≡ false → seat_of values x (drop j l) ≡ seat_of values x (drop (j + 1) l) + 1
unfolding seat_of
seat-past values x l j h e t = rw (drop-cons l j 0, ← e, t, add-one, add-one)

pub order-none : (values : List Float) → [] ≡ places_of (order_to values 0)
unfolding order_to places_of
order-none values = refl

order-next : (values : List Float) (k : ℕ) → order_to values (k + 1) ≡ inserted values k (order_to values k)
unfolding order_to
order-next values k = rw add-one

places_of-cons : (a : List ℕ) (x : ℕ) (b : List ℕ) → places_of (a ++ x ∷ b) ≡ places_of a ++ place x ∷ places_of b
unfolding places_of
places_of-cons a x b = places_of-append a (x ∷ b)

-- one place more, put at its seat among the first k of `order`: the first k + 1 are then in order
pub order-more : (values order ys : List Float) (k p : ℕ) → k < length order → length ys ≡ k + 1 → take k order ≡ places_of (order_to values k)
    → p ≡ seat_of values k (order_to values k) → ys ≡ push_at (take (k + 1) order) p (place k)
    → take (k + 1) (ys ++ drop (k + 1) order) ≡ places_of (order_to values (k + 1))
order-more values order ys k p h e i s t =
    let os = order_to values k in
    let w : p ≤ length (places_of os) = omega (arith, seat-le values k os, length-places_of os) in
    let z : take (k + 1) order ≡ places_of os ++ get_or order k nan ∷ [] = rw (add-one, take-suc order k nan, i) in
    let u : ys ≡ take p (places_of os) ++ place k ∷ drop p (places_of os) = t ∙ rw z (push_at-snoc (places_of os) (get_or order k nan) p (place k) w) in
    let v : take p (places_of os) ++ place k ∷ drop p (places_of os) ≡ places_of (take p os ++ k ∷ drop p os) =
    rw (places_of-take p os, places_of-drop p os, places_of-cons (take p os) k (drop p os)) in
    take_at ys (drop (k + 1) order) (k + 1) e ∙ u ∙ v ∙ rw s (ap places_of (sym (inserted-seat values k os) ∙ sym (order-next values k)))

-- ---- the first k cells of a list hold the order of the first k values
module _ (values order : List Float) (k : ℕ) (h : take k order ≡ places_of (order_to values k)) where
  pub are-places : k ≤ length values → Places (length values) (take k order)
  are-places l = record { places = order_to values k; are = h; low = below_more k (length values) (order_to values k) l (order_below values k) }

  pub seat-stored : k ≤ 4096 → seat_of values k (places_in (take k order)) ≡ seat_of values k (order_to values k)
  seat-stored l = ap (λ (f : List Float). seat_of values k (places_in f)) h ∙ ap (seat_of values k) (places-back k (order_to values k) l (order_below values k))
