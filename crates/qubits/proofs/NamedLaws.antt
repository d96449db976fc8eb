-- A list that `validate_qubit_set` accepts: its mask, how many submasks that has, and that it is no longer than the register.
-- Assumes nothing.
use mathlib.Core.Path.{◌≡◌, refl, sym, ap, ◌∙◌}
use mathlib.Core.Logic.{⊎_elim}
use mathlib.Core.Bool.{Bool, true, false, ◌||◌}
use mathlib.Core.List.{List, [], ◌∷◌, ◌++◌}
use Prim.Native.Nat.{ℕ, zero, suc, ◌+◌, ◌-◌, ◌*◌, ◌/◌, ◌%◌, ◌^◌, ◌≤◌, ◌<◌}
use native.Mathlib.Nat.{zero-div, pow-suc, zero-add, mul_comm, eq_of_mul-eq-mul_left}
use native.Mathlib.Numerals.{add-one}
use native.Mathlib.Omega.{arith}
use borrow.Author.Tests.{eqb-false, ltb-false}
use lib.Bits.{bit_or, or_lt}
use lib.Dec.{eqb, ltb}
use lib.Pow.{pow-lt, pow_pos, pow_mono, pow-add}
use lib.ListN.{length, get_or, take, drop, drop_of_length-le}
use lib.Seq.{take-suc, take-length, drop-cons}
use Rattle.answers.specs.Paper.{done, refuse}
use Rattle.answers.proofs.PaperLaws.{refuse-done, and_then-done}
use Rattle.submasks.proofs.SubmaskLaws.{submask_count, submask_count-set, power-digit, or-digit, submask_count-le, le-or-lt, submask_count-none, counts}
use Rattle.submasks.specs.Submasks.{others}
use Rattle.qubits.specs.Lists.{stands, places_from, places, qubit_set, Listed}
use Rattle.qubits.proofs.ListLaws.{places-done}
use Rattle.qubits.specs.Spread.{mask_from, named}

pub mask_end : (m : ℕ) (l : List ℕ) (i : ℕ) → length l ≤ i → mask_from m (drop i l) ≡ m
unfolding mask_from
mask_end m l i h = rw (drop_of_length-le l h)

pub mask-more : (m : ℕ) (l : List ℕ) (i : ℕ) → i < length l
    → mask_from m (drop i l) ≡ mask_from (bit_or m (2 ^ get_or l i 0)) (drop (i + 1) l)
unfolding mask_from
mask-more m l i h = rw (add-one, drop-cons l i 0)

pub pow_small : (n : ℕ) → n ≤ 12 → 2 ^ n ≤ 4096
pow_small n h = pow_mono h

-- the two sides' sizes make up the register's
pub sizes-product : (n k : ℕ) → k ≤ n → 2 ^ (n - k) * 2 ^ k ≡ 2 ^ n
sizes-product n k h = let e : n - k + k ≡ n = omega arith in sym (pow-add 2 (n - k) k) ∙ ap (λ (x : ℕ). 2 ^ x) e

or-false : (a b : Bool) → (a || b) ≡ false → (a ≡ false) × (b ≡ false)
or-false true b e = (e, let z : true ≡ false = e in cc)
or-false false b e = (refl, e)

-- a qubit that the list does not name has a 0
pub not_there : (m : ℕ) (l : List ℕ) (q : ℕ) → stands q l ≡ false → m / 2 ^ q % 2 ≡ 0 → mask_from m l / 2 ^ q % 2 ≡ 0
unfolding stands mask_from
not_there m [] q e h = h
not_there m (x ∷ l) q e h =
    let a = or-false (eqb x q) (stands q l) e in
    not_there (bit_or m (2 ^ x)) l q a.1 (or-digit m (2 ^ x) q h (power-digit q x (λ g. eqb-false x q a.0 (sym g))))

snoc : (m : ℕ) (a : List ℕ) (x : ℕ) → mask_from m (a ++ x ∷ []) ≡ bit_or (mask_from m a) (2 ^ x)
unfolding mask_from
snoc m [] x = refl
snoc m (y ∷ a) x = snoc (bit_or m (2 ^ y)) a x

module _ (n : ℕ) (l : List ℕ) (below : (k : ℕ) → k < length l → get_or l k 0 < n)
    (apart : (k : ℕ) → k < length l → stands (get_or l k 0) (take k l) ≡ false) where
  front : (i : ℕ) → i ≤ length l → (named (take i l) < 2 ^ n) × (submask_count n (named (take i l)) ≡ 2 ^ i)
  unfolding mask_from
  front zero h = (pow_pos n, submask_count-none n)
  front (suc i) h =
      let k : i < length l = omega arith in
      let f = front i (omega arith) in
      let x = get_or l i 0 in
      let e : named (take (suc i) l) ≡ bit_or (named (take i l)) (2 ^ x) = ap named (take-suc l i 0 k) ∙ snoc 0 (take i l) x in
      let z : named (take i l) / 2 ^ x % 2 ≡ 0 = not_there 0 (take i l) x (apart i k) (rw zero-div) in (
        rw e (or_lt n (named (take i l)) (2 ^ x) f.0 (pow-lt (below i k))),
        ap (submask_count n) e ∙ submask_count-set n (named (take i l)) x (below i k) z ∙ ap (λ (y : ℕ). y * 2) f.1 ∙ sym (pow-suc 2 i),
      )

  count : submask_count n (named l) ≡ 2 ^ length l
  count = rw (take-length l) at (front (length l) (omega arith)).1

  no_longer : length l ≤ n
  no_longer =
      ⊎_elim (λ (h : length l ≤ n). h)
      (λ (h : n < length l). absurd (omega (arith, pow-lt h, submask_count-le n (named l), count)))
      (le-or-lt (length l) n)

-- the mask of an accepted list, and how many submasks it and the others' mask have
module _ (n : ℕ) (l : List ℕ) (p : Listed n l) where
  pub named-lt : named l < 2 ^ n
  named-lt = rw (take-length l) at (front n l p.below p.apart (length l) (omega arith)).0

  pub named_count : submask_count n (named l) ≡ 2 ^ length l
  named_count = count n l p.below p.apart

  pub others-count : submask_count n (others n (named l)) ≡ 2 ^ (n - length l)
  others-count =
      eq_of_mul-eq-mul_left (2 ^ length l) (pow_pos (length l)) _ _
      (ap (λ (x : ℕ). x * submask_count n (others n (named l))) (sym named_count) ∙ counts n (named l) named-lt
      ∙ sym (sizes-product n (length l) p.short) ∙ mul_comm (2 ^ (n - length l)) (2 ^ length l))

-- a list that no test refuses
module _ (n : ℕ) (l : List ℕ) (e : (qubit_set n l).0 ≡ 0) where
  low : (ltb n 1 ≡ false) × ((refuse (ltb 12 n) (1, 0) (places n l)).0 ≡ 0)
  low = refuse-done (ltb n 1) 0 0 (refuse (ltb 12 n) (1, 0) (places n l)) e

  high : (ltb 12 n ≡ false) × ((places n l).0 ≡ 0)
  high = refuse-done (ltb 12 n) 0 0 (places n l) low.1

  named_some : ((places_from n l 0 l).0 ≡ 0) × ((refuse (eqb (length l) 0) (4, 0) done).0 ≡ 0)
  named_some = and_then-done (places_from n l 0 l) (refuse (eqb (length l) 0) (4, 0) done) high.1

  distinct : (k : ℕ) → k < length l → (get_or l k 0 < n) × (stands (get_or l k 0) (take k l) ≡ false)
  distinct k h = rw zero-add at (places-done n l 0 l named_some.0 k h)

  pub is-listed : Listed n l
  is-listed = record {
    small = ltb-false 12 n high.0;
    below = λ k h. (distinct k h).0;
    apart = λ k h. (distinct k h).1;
    short = no_longer n l (λ k h. (distinct k h).0) (λ k h. (distinct k h).1);
  }

  pub not-empty : length l ≡ 0 → ⊥
  not-empty = eqb-false (length l) 0 (refuse-done (eqb (length l) 0) 3 0 done named_some.1).0
