-- Laws of what `specs/Push.antt` defines. Assumes nothing.
use mathlib.Core.Path.{◌≡◌, refl, ap}
use mathlib.Core.List.{List, [], ◌∷◌, ◌++◌, append_assoc, append-nil}
use Prim.Native.Nat.{ℕ, suc, ◌+◌, ◌≤◌, ◌<◌}
use native.Mathlib.Numerals.{add-one}
use lib.ListN.{length, get_or, take, drop, set, drop_of_length-le}
use lib.Seq.{take-suc-set, drop-set-lt, drop-cons, take_all, take-append-le, drop-append-le}
use native.Mathlib.Omega.{arith}
use Rattle.stable_order.specs.Push.{push, push_at}

-- at the end nothing is left to do
pub push_at-done : {A : Type 0} (l : List A) (i : ℕ) (x : A) → length l ≤ i → push_at l i x ≡ l
unfolding push_at push
push_at-done l i x h = rw (take_all i l, drop_of_length-le l h, append-nil)

-- the value at i is put at i, and the one that stood there is what is left to put
pub push_at-more : {A : Type 0} (l : List A) (i : ℕ) (x d : A) → i < length l → push_at (set l i x) (i + 1) (get_or l i d) ≡ push_at l i x
unfolding push_at push
push_at-more l i x d h =
    let k : i < suc i = omega arith in
    rw (add-one, take-suc-set l i x, drop-set-lt (suc i) l i x, drop-cons l i d, append_assoc)

push-snoc : {A : Type 0} (l : List A) (x z : A) → push x (l ++ z ∷ []) ≡ x ∷ l
unfolding push
push-snoc [] x z = refl
push-snoc {A} (y ∷ ys) x z = ap {B = List A} (λ r. x ∷ r) (push-snoc ys y z)

-- where the last one is to fall off, the value stands between what was before the place and what was after it
pub push_at-snoc : {A : Type 0} (l : List A) (z : A) (i : ℕ) (x : A) → i ≤ length l → push_at (l ++ z ∷ []) i x ≡ take i l ++ x ∷ drop i l
unfolding push_at
push_at-snoc l z i x h = rw (take-append-le i l, drop-append-le i l, push-snoc)
