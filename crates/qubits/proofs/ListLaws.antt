-- One turn of a loop over a list, at the position i. Assumes nothing.
use mathlib.Core.Path.{◌≡◌, refl, ap}
use mathlib.Core.Bool.{Bool, true, false, ◌||◌}
use mathlib.Core.List.{List, [], ◌∷◌}
use Prim.Native.Nat.{ℕ, zero, suc, ◌+◌, ◌≤◌, ◌<◌}
use native.Mathlib.Numerals.{add-one}
use native.Mathlib.Omega.{arith}
use native.Mathlib.Nat.{add-zero}
use borrow.Author.Tests.{eq-eqb, ne_eqb, le-leb, lt-leb, leb-false}
use lib.Dec.{leb, eqb}
use lib.ListN.{length, take, drop, get_or, drop_of_length-le}
use lib.Seq.{drop-cons}
use Rattle.std.specs.List.{list_any}
use Rattle.answers.specs.Paper.{done, refuse}
use Rattle.answers.proofs.PaperLaws.{refuse-done}
use Rattle.qubits.specs.Lists.{stands, places_from}

module _ (l : List ℕ) (i q : ℕ) where
  pub stands_here : i < length l → get_or l i 0 ≡ q → stands q (drop i l) ≡ true
  unfolding stands
  stands_here h e = rw (drop-cons l i 0, eq-eqb (get_or l i 0) q e)

  pub stands-past : i < length l → (get_or l i 0 ≡ q → ⊥) → stands q (drop i l) ≡ stands q (drop (i + 1) l)
  unfolding stands
  stands-past h e = rw (add-one, drop-cons l i 0, ne_eqb (get_or l i 0) q e)

  pub stands-end : length l ≤ i → stands q (drop i l) ≡ false
  unfolding stands
  stands-end h = rw (drop_of_length-le l h)

-- the library's `contains`
pub stands-any : (q : ℕ) (l : List ℕ) → list_any (λ x. eqb x q) l ≡ stands q l
unfolding stands
stands-any q [] = refl
stands-any q (x ∷ l) = ap (λ (b : Bool). eqb x q || b) (stands-any q l)

module _ (n : ℕ) (l : List ℕ) (i : ℕ) (h : i < length l) where
  pub places-out : n ≤ get_or l i 0 → places_from n l i (drop i l) ≡ (2, i)
  unfolding places_from
  places-out e = rw (drop-cons l i 0, le-leb n (get_or l i 0) e)

  pub places-twice : get_or l i 0 < n → stands (get_or l i 0) (take i l) ≡ true → places_from n l i (drop i l) ≡ (3, i)
  unfolding places_from
  places-twice e t = rw (drop-cons l i 0, lt-leb n (get_or l i 0) e, t)

  pub places-past : get_or l i 0 < n → stands (get_or l i 0) (take i l) ≡ false
      → places_from n l i (drop i l) ≡ places_from n l (i + 1) (drop (i + 1) l)
  unfolding places_from
  places-past e t = rw (add-one, drop-cons l i 0, lt-leb n (get_or l i 0) e, t)

pub places-end : (n : ℕ) (l : List ℕ) (i : ℕ) → length l ≤ i → places_from n l i (drop i l) ≡ done
unfolding places_from
places-end n l i h = rw (drop_of_length-le l h)

-- a list that 2 and 3 do not refuse: each qubit is below n, and stands nowhere before it
pub places-done : (n : ℕ) (l : List ℕ) (i : ℕ) (rest : List ℕ) → (places_from n l i rest).0 ≡ 0 → (k : ℕ) → k < length rest
    → (get_or rest k 0 < n) × (stands (get_or rest k 0) (take (i + k) l) ≡ false)
unfolding places_from
places-done n l i [] e k h = absurd (omega arith)
places-done n l i (q ∷ rest) e zero h =
    let a = refuse-done (leb n q) 1 i (refuse (stands q (take i l)) (3, i) (places_from n l (suc i) rest)) e in
    (leb-false n q a.0, rw add-zero (refuse-done (stands q (take i l)) 2 i (places_from n l (suc i) rest) a.1).0)
places-done n l i (q ∷ rest) e (suc k) h =
    let a = refuse-done (leb n q) 1 i (refuse (stands q (take i l)) (3, i) (places_from n l (suc i) rest)) e in
    let b = refuse-done (stands q (take i l)) 2 i (places_from n l (suc i) rest) a.1 in
    let s : i + suc k ≡ suc i + k = omega arith in
    rw s (places-done n l (suc i) rest b.1 k (omega arith))
