-- What refuses a list with one qubit more, and with one less. Assumes nothing.
use mathlib.Core.Path.{◌≡◌, refl, sym, ap, ap₂, ◌∙◌}
use mathlib.Core.Bool.{Bool, true, false, cond}
use mathlib.Core.Logic.{⊎_elim}
use mathlib.Core.List.{List, [], ◌∷◌, ◌++◌}
use Prim.Native.Nat.{ℕ, zero, suc, ◌+◌, ◌≤◌, ◌<◌}
use native.Mathlib.Nat.{zero-add}
use native.Mathlib.Omega.{arith}
use borrow.Author.Tests.{ne_eqb, lt-leb}
use lib.Dec.{eqb, leb, ltb}
use lib.ListN.{length, get_or, take, drop, length-append}
use lib.Seq.{take-length, take-append_seam, take-append-le, split_at}
use Rattle.answers.specs.Paper.{Reply, done, refuse, and_then}
use Rattle.answers.proofs.PaperLaws.{refuse-done, and_then-done}
use Rattle.qubits.specs.Lists.{stands, places_from, places, qubit_set, subsystem}
use Rattle.cut_sides.specs.Sides.{cut_sizes, cut_refusal, Parted}
use Rattle.cut_sides.proofs.SideLaws.{is-parted}
use Rattle.cut_naming.specs.Reordered.{times}
use Rattle.cut_naming.proofs.ReorderedLaws.{times_none, times-some, either, times-append, times-self, stands_at, stands-index, at-most-once, pass, places-pass, set-of-cut}
use Rattle.plan_lists.specs.Padded.{without}

-- ---- the tests of another list of the same register

module _ (n : ℕ) (l : List ℕ) (e : (cut_refusal l n 13).0 ≡ 0) where
  pub row_of : (l' : List ℕ)
      → cut_refusal l' n 13 ≡ and_then (and_then (places_from n l' 0 l') (refuse (eqb (length l') 0) (4, 0) done)) (refuse (eqb (length l') n) (5, 0) done)
  row_of l' =
      let s = set-of-cut n 13 l e in
      let a = refuse-done (ltb n 1) 0 0 (refuse (ltb 12 n) (1, 0) (places n l)) s in
      let b = refuse-done (ltb 12 n) 0 0 (places n l) a.1 in
      let q : qubit_set n l' ≡ places n l' = rw (a.0, b.0) in
      pass (cut_sizes n 13) (subsystem n l') (and_then-done (cut_sizes n 13) (subsystem n l) e).0
      ∙ ap (λ (x : Reply). and_then x (refuse (eqb (length l') n) (5, 0) done)) q

-- ---- one more

pub places-added : (n q : ℕ) (whole : List ℕ) (i : ℕ) (rest : List ℕ)
    → ((k : ℕ) → k < length rest → (get_or rest k 0 < n) × (stands (get_or rest k 0) (take (i + k) whole) ≡ false))
    → places_from n whole i (rest ++ q ∷ [])
    ≡ refuse (leb n q) (2, i + length rest) (refuse (stands q (take (i + length rest) whole)) (3, i + length rest) done)
unfolding places_from
places-added n q whole i [] h = let e : i + 0 ≡ i = omega arith in rw e
places-added n q whole i (x ∷ rest) h =
    let a = h 0 (omega arith) in
    let e : i + 0 ≡ i = omega arith in
    let s : stands x (take i whole) ≡ false = rw e at a.1 in
    let g : i + suc (length rest) ≡ suc i + length rest = omega arith in
    rw (lt-leb n x a.0, s, g)
    (places-added n q whole (suc i) rest (λ k f. let d : suc i + k ≡ i + suc k = omega arith in rw d (h (suc k) (omega arith))))

added-row : (a b e : Bool) (k : ℕ)
    → and_then (and_then (refuse a (2, k) (refuse b (3, k) done)) done) (refuse e (5, 0) done) ≡ refuse a (2, k) (refuse b (3, k) (refuse e (5, 0) done))
added-row true b e k = refl
added-row false true e k = refl
added-row false false e k = refl

pub list-added : (n q : ℕ) (l : List ℕ) → (cut_refusal l n 13).0 ≡ 0
    → cut_refusal (l ++ q ∷ []) n 13 ≡ refuse (leb n q) (2, length l) (refuse (stands q l) (3, length l) (refuse (eqb (length l + 1) n) (5, 0) done))
list-added n q l e =
    let p = (is-parted l n 13 e).listed in
    let w = l ++ q ∷ [] in
    let s : length w ≡ length l + 1 = length-append l (q ∷ []) in
    let z : eqb (length w) 0 ≡ false = ne_eqb (length w) 0 (λ f. omega (arith, s)) in
    let t : take (length l) w ≡ l = take-append_seam l (q ∷ []) in
    let r = places-added n q w 0 l (λ k h. (p.below k h, rw (zero-add k, take-append-le k l (q ∷ []) (omega arith)) (p.apart k h))) in
    let r' : places_from n w 0 w ≡ refuse (leb n q) (2, length l) (refuse (stands q l) (3, length l) done)
    = r ∙ ap (λ (j : ℕ). refuse (leb n q) (2, j) (refuse (stands q (take j w)) (3, j) done)) (zero-add (length l))
    ∙ ap (λ (v : List ℕ). refuse (leb n q) (2, length l) (refuse (stands q v) (3, length l) done)) t in
    row_of n l e w
    ∙ ap (λ (x : Reply). and_then (and_then x (refuse (eqb (length w) 0) (4, 0) done)) (refuse (eqb (length w) n) (5, 0) done)) r'
    ∙ ap (λ (b : Bool). and_then (and_then (refuse (leb n q) (2, length l) (refuse (stands q l) (3, length l) done)) (refuse b (4, 0) done)) (refuse (eqb (length w) n) (5, 0) done)) z
    ∙ ap (λ (j : ℕ). and_then (and_then (refuse (leb n q) (2, length l) (refuse (stands q l) (3, length l) done)) done) (refuse (eqb j n) (5, 0) done)) s
    ∙ added-row (leb n q) (stands q l) (eqb (length l + 1) n) (length l)

-- ---- one less

times-without : (x q : ℕ) (l : List ℕ) → times x (without q l) ≤ times x l
unfolding without times
times-without x q [] = omega arith
times-without x q (y ∷ l) =
    elim (eqb y q) as (λ (b : Bool). times x (cond b (without q l) (y ∷ without q l)) ≤ cond (eqb y x) 1 0 + times x l) [
      | true ↦ omega (arith, times-without x q l)
      | false ↦ omega (arith, times-without x q l)
    ]

length_without : (q : ℕ) (l : List ℕ) → length (without q l) + times q l ≡ length l
unfolding without times
length_without q [] = refl
length_without q (y ∷ l) =
    elim (eqb y q) as (λ (b : Bool). length (cond b (without q l) (y ∷ without q l)) + (cond b 1 0 + times q l) ≡ suc (length l)) [
      | true ↦ omega (arith, length_without q l)
      | false ↦ omega (arith, length_without q l)
    ]

last_one : (a : ℕ) → eqb a 0 ≡ eqb (a + 1) 1
last_one zero = refl
last_one (suc a) = ne_eqb (suc a) 0 (λ e. omega arith) ∙ sym (ne_eqb (suc a + 1) 1 (λ e. omega arith))

dropped-row : (a : Bool) → and_then (and_then done (refuse a (4, 0) done)) (refuse false (5, 0) done) ≡ refuse a (4, 0) done
dropped-row true = refl
dropped-row false = refl

module _ (n q : ℕ) (l : List ℕ) (e : (cut_refusal l n 13).0 ≡ 0) (here : stands q l ≡ true) where
  parted : Parted l n
  parted = is-parted l n 13 e

  once : (x : ℕ) → times x l ≤ 1
  once x = rw (take-length l) at (at-most-once l parted.listed.apart x (length l) (omega arith))

  shorter : length (without q l) + 1 ≡ length l
  shorter = omega (arith, length_without q l, once q, times-some q l here)

  below : (k : ℕ) → k < length (without q l) → get_or (without q l) k 0 < n
  below k h =
      let x = get_or (without q l) k 0 in
      stands-index x l
      (⊎_elim (λ (g : stands x l ≡ true). g)
      (λ (g : stands x l ≡ false). absurd (omega (arith, times_none x l g, times-without x q l, times-some x (without q l) (stands_at (without q l) k h))))
      (either x l))
      n parted.listed.below

  apart : (k : ℕ) → k < length (without q l) → stands (get_or (without q l) k 0) (take k (without q l)) ≡ false
  apart k h =
      let o = without q l in
      let x = get_or o k 0 in
      ⊎_elim
      (λ (g : stands x (take k o) ≡ true).
      absurd (omega (
        arith,
        times-some x (take k o) g,
        times-without x q l,
        once x,
        ap (times x) (split_at o k 0 h),
        times-append x (take k o) (x ∷ drop (suc k) o),
        times-self x (drop (suc k) o),
      )))
      (λ (g : stands x (take k o) ≡ false). g)
      (either x (take k o))

  pub list-dropped : cut_refusal (without q l) n 13 ≡ refuse (eqb (length l) 1) (4, 0) done
  list-dropped =
      let o = without q l in
      let r : places_from n o 0 o ≡ done = places-pass n o 0 o (λ k h. (below k h, rw zero-add (apart k h))) in
      let v : eqb (length o) n ≡ false = ne_eqb (length o) n (λ f. omega (arith, shorter, parted.part)) in
      let z : eqb (length o) 0 ≡ eqb (length l) 1 = last_one (length o) ∙ ap (λ (j : ℕ). eqb j 1) shorter in
      row_of n l e o
      ∙ ap (λ (x : Reply). and_then (and_then x (refuse (eqb (length o) 0) (4, 0) done)) (refuse (eqb (length o) n) (5, 0) done)) r
      ∙ ap₂ (λ (a b : Bool). and_then (and_then done (refuse a (4, 0) done)) (refuse b (5, 0) done)) z v
      ∙ dropped-row (eqb (length l) 1)
