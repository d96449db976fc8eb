-- The laws of `Lists` that the calls cite: at the value that is found, at the end of a loop, and past any other value. Assumes nothing.
use mathlib.Core.Path.{◌≡◌, refl, sym, ap, ◌∙◌}
use mathlib.Core.Bool.{Bool, true, false, not, cond}
use lib.Dec.{ltb}
use borrow.Author.Tests.{ltb-false}
use Rattle.std.specs.Prelude.{Option, None, Some, unwrap_or}
use Rattle.std.specs.List.{position, position_or_len, position_from}
use Rattle.std.proofs.lemmas.List.Sums.{prefix_len-le-length}
use Rattle.std.proofs.lemmas.Iterator.Adapters.{position_from-zero}
use mathlib.Core.List.{List, [], ◌∷◌, ◌++◌, append_assoc, append-nil}
use Prim.Native.Nat.{ℕ, suc, ◌+◌, ◌≤◌, ◌<◌}
use native.Mathlib.Numerals.{add-one}
use native.Mathlib.Omega.{arith}
use lib.Ieee.{Float, nan, binary64, add, mul, le}
use lib.ListN.{length, get_or, take, drop, set, drop_of_length-le}
use lib.Seq.{drop-cons, take-suc-set, drop-set-lt, take_all}
use Rattle.answers.specs.Paper.{Reply, done, refuse}
use Rattle.numbers.specs.Numbers.{allowed}
use Rattle.values.specs.Lists.{values_allowed, kept_above, squares_from, scaled_by}

-- the first place that passes, or the length where none does
pub position-or : (p : Float → Bool) (l : List Float) → unwrap_or (position p l) (length l) ≡ position_or_len p l
position-or p l = pick (ltb (position_or_len p l) (length l)) refl
  where
    pick : (t : Bool) → ltb (position_or_len p l) (length l) ≡ t → unwrap_or (cond t (Some (position_or_len p l)) None) (length l) ≡ position_or_len p l
    pick true e = refl
    pick false e =
        let a : length l ≤ position_or_len p l = ltb-false (position_or_len p l) (length l) e in
        omega (arith, prefix_len-le-length (λ x. not (p x)) l)

-- 7 at that place, and 0 where there is none
abbrev bad_at : Option ℕ → Reply
bad_at None = done
bad_at (Some i) = (7, i)

allowed-from : (i : ℕ) (l : List Float) → bad_at (position_from (λ x. not (allowed x)) i l) ≡ values_allowed i l
unfolding values_allowed
allowed-from i [] = refl
allowed-from i (x ∷ l) = rw add-one (pick (not (allowed x)) (allowed-from (suc i) l))
  where
    pick : (t : Bool) → bad_at (position_from (λ x. not (allowed x)) (suc i) l) ≡ values_allowed (suc i) l
        → bad_at (cond t (Some i) (position_from (λ x. not (allowed x)) (suc i) l)) ≡ refuse t (7, i) (values_allowed (suc i) l)
    pick true h = refl
    pick false h = h

pub allowed-found : (l : List Float) {r q : Option ℕ} → r ≡ position (λ x. not (allowed x)) l → r ≡ q → bad_at q ≡ values_allowed 0 l
allowed-found l e f = ap bad_at (sym f ∙ e ∙ position_from-zero (λ x. not (allowed x)) l) ∙ allowed-from 0 l

-- ---- what a floor keeps

kept-place : (f : Float) (l : List Float) → length (kept_above f l) ≡ position_or_len (λ x. le x f) l
unfolding kept_above
kept-place f [] = refl
kept-place f (x ∷ l) = pick (le x f) (kept-place f l)
  where
    pick : (t : Bool) → length (kept_above f l) ≡ position_or_len (λ y. le y f) l
        → length (cond t [] (x ∷ kept_above f l)) ≡ cond (not t) (1 + position_or_len (λ y. le y f) l) 0
    pick true h = refl
    pick false h = omega arith

pub kept-found : (f : Float) (l : List Float) → unwrap_or (position (λ x. le x f) l) (length l) ≡ length (kept_above f l)
kept-found f l = position-or (λ x. le x f) l ∙ sym (kept-place f l)

-- what is kept is a front part
pub kept-front : (f : Float) (l : List Float) → take (length (kept_above f l)) l ≡ kept_above f l
unfolding kept_above
kept-front f [] = refl
kept-front f (x ∷ l) = pick (le x f) (kept-front f l)
  where
    pick : (t : Bool) → take (length (kept_above f l)) l ≡ kept_above f l
        → take (length (cond t [] (x ∷ kept_above f l))) (x ∷ l) ≡ cond t [] (x ∷ kept_above f l)
    pick true h = refl
    pick false h = ap {B = List Float} (λ r. x ∷ r) h

pub kept-le : (f : Float) (l : List Float) → length (kept_above f l) ≤ length l
unfolding kept_above
kept-le f [] = omega arith
kept-le f (x ∷ l) = pick (le x f) (kept-le f l)
  where
    pick : (t : Bool) → length (kept_above f l) ≤ length l → length (cond t [] (x ∷ kept_above f l)) ≤ suc (length l)
    pick true h = omega arith
    pick false h = omega arith

-- ---- the sum, and the scaling

pub squares-end : (t : Float) (l : List Float) (i : ℕ) → length l ≤ i → squares_from t (drop i l) ≡ t
unfolding squares_from
squares-end t l i h = rw (drop_of_length-le l h)

pub squares-more : (t : Float) (l : List Float) (i : ℕ) → i < length l
    → squares_from t (drop i l) ≡ squares_from (add binary64 t (mul binary64 (get_or l i nan) (get_or l i nan))) (drop (i + 1) l)
unfolding squares_from
squares-more t l i h = rw (add-one, drop-cons l i nan)

-- a step of the loop: the place i is scaled, and those past it are left
pub scaled-more : (k : Float) (l : List Float) (i : ℕ) → i < length l
    → let m = set l i (mul binary64 (get_or l i nan) k) in
    take (i + 1) m ++ scaled_by k (drop (i + 1) m) ≡ take i l ++ scaled_by k (drop i l)
unfolding scaled_by
scaled-more k l i h =
    let j : i < suc i = omega arith in
    rw (add-one, take-suc-set l i (mul binary64 (get_or l i nan) k), drop-set-lt (suc i) l i (mul binary64 (get_or l i nan) k), drop-cons l i nan, append_assoc)

pub scaled-end : (k : Float) (l : List Float) (i : ℕ) → length l ≤ i → take i l ++ scaled_by k (drop i l) ≡ l
unfolding scaled_by
scaled-end k l i h = rw (take_all i l, drop_of_length-le l h, append-nil)

pub length-scaled : (k : Float) (l : List Float) → length (scaled_by k l) ≡ length l
unfolding scaled_by
length-scaled k [] = refl
length-scaled k (x ∷ l) = ap suc (length-scaled k l)
