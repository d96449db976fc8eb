-- What a reader may want to know of this crate's definitions and calls. Assumes nothing.
use mathlib.Core.Path.{◌≡◌, refl, sym, ap, ◌∙◌}
use mathlib.Core.Bool.{Bool, true, false, cond}
use mathlib.Core.List.{List, [], ◌∷◌, ◌++◌}
use Prim.Native.Nat.{ℕ, zero, suc, ◌+◌, ◌≤◌}
use native.Mathlib.Omega.{arith}
use lib.ListN.{length, get_or, take}
use lib.Seq.{take-suc, take-length}
use lib.Ieee.{Float, nan}
use Rattle.numbers.specs.Numbers.{total_less}
use Rattle.values.specs.Sort.{insert_down, sort_to, sorted_down}
use Rattle.sorting.proofs.Total.{less-asym, less-over}
use Rattle.sorting.specs.Sorted.{NoneAbove, Falls, passing}

over : (x y : Float) (l : List Float) → total_less y x ≡ true → NoneAbove y l → NoneAbove x l
over x y [] h a = tt
over x y (z ∷ l) h a = (less-over x y z h a.0, over x y l h a.1)

above-inserted : (x y : Float) (l : List Float) → total_less y x ≡ false → NoneAbove y l → NoneAbove y (insert_down x l)
unfolding insert_down
above-inserted x y [] h a = (h, tt)
above-inserted x y (z ∷ l) h a = pick (total_less z x) (above-inserted x y l h a.1)
  where
    pick : (t : Bool) → NoneAbove y (insert_down x l) → NoneAbove y (cond t (x ∷ z ∷ l) (z ∷ insert_down x l))
    pick true r = (h, a)
    pick false r = (a.0, r)

falls-inserted : (x : Float) (l : List Float) → Falls l → Falls (insert_down x l)
unfolding insert_down
falls-inserted x [] f = (tt, tt)
falls-inserted x (y ∷ l) f = pick (total_less y x) refl (falls-inserted x l f.1)
  where
    pick : (t : Bool) → total_less y x ≡ t → Falls (insert_down x l) → Falls (cond t (x ∷ y ∷ l) (y ∷ insert_down x l))
    pick true h r = ((less-asym y x h, over x y l h f.0), f)
    pick false h r = (above-inserted x y l h f.0, r)

falls-to : (values : List Float) (k : ℕ) → Falls (sort_to values k)
unfolding sort_to
falls-to values zero = tt
falls-to values (suc k) = falls-inserted (get_or values k nan) (sort_to values k) (falls-to values k)

-- The sorted values fall in the total order.
pub sorted-falls : (values : List Float) → Falls (sorted_down values)
sorted-falls values = falls-to values (length values)

passing-append : (test : Float → Bool) (a b : List Float) → passing test (a ++ b) ≡ passing test a + passing test b
unfolding passing
passing-append test [] b = omega arith
passing-append test (x ∷ a) b = let h = passing-append test a b in omega arith

passing-inserted : (test : Float → Bool) (x : Float) (l : List Float) → passing test (insert_down x l) ≡ cond (test x) 1 0 + passing test l
unfolding passing insert_down
passing-inserted test x [] = refl
passing-inserted test x (y ∷ l) = pick (total_less y x) (passing-inserted test x l)
  where
    pick : (t : Bool) → passing test (insert_down x l) ≡ cond (test x) 1 0 + passing test l
        → passing test (cond t (x ∷ y ∷ l) (y ∷ insert_down x l)) ≡ cond (test x) 1 0 + (cond (test y) 1 0 + passing test l)
    pick true h = refl
    pick false h = omega arith

passing-one : (test : Float → Bool) (x : Float) → passing test (x ∷ []) ≡ cond (test x) 1 0
unfolding passing
passing-one test x = omega arith

passing-to : (test : Float → Bool) (values : List Float) (k : ℕ) → k ≤ length values → passing test (sort_to values k) ≡ passing test (take k values)
unfolding sort_to
passing-to test values zero h = refl
passing-to test values (suc k) h =
    let x = get_or values k nan in
    let before = passing-to test values k (omega arith) in
    let added : passing test (take k values ++ x ∷ []) ≡ passing test (take k values) + cond (test x) 1 0
    = passing-append test (take k values) (x ∷ []) ∙ ap (λ (n : ℕ). passing test (take k values) + n) (passing-one test x) in
    passing-inserted test x (sort_to values k) ∙ omega (arith, before, added) ∙ sym (ap (passing test) (take-suc values k nan h))

-- The sorted values are the same values, each as often.
pub sorted-same : (test : Float → Bool) (values : List Float) → passing test (sorted_down values) ≡ passing test values
sorted-same test values = passing-to test values (length values) (omega arith) ∙ ap (passing test) (take-length values)
