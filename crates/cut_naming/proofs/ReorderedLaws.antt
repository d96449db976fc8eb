-- Laws of what `specs/Reordered.antt` defines. Assumes nothing.
use mathlib.Core.Path.{◌≡◌, refl, sym, ap, ◌∙◌}
use mathlib.Core.Logic.{◌⊎◌, inl, inr, ⊎_elim}
use mathlib.Core.Bool.{Bool, true, false, ◌||◌, cond}
use mathlib.Core.List.{List, [], ◌∷◌, ◌++◌}
use Prim.Native.Nat.{ℕ, zero, suc, ◌+◌, ◌-◌, ◌≤◌, ◌<◌}
use native.Mathlib.Nat.{zero-div, zero-add}
use native.Mathlib.Omega.{arith}
use borrow.Author.Tests.{eq-eqb, eqb-true, lt-leb, ne_eqb}
use lib.Dec.{eqb, ltb}
use lib.ListN.{length, get_or, take, drop}
use lib.Seq.{take-suc, take-length, split_at}
use Rattle.answers.specs.Paper.{Reply, done, refuse, and_then}
use Rattle.answers.proofs.PaperLaws.{refuse-done, and_then-done}
use Rattle.submasks.proofs.SubmaskLaws.{submask_count}
use Rattle.submasks.proofs.BitLaws.{same_digits}
use Rattle.qubits.specs.Lists.{stands, places_from, places, qubit_set, subsystem, density_sizes, Listed}
use Rattle.qubits.specs.Spread.{named}
use Rattle.qubits.proofs.NamedLaws.{is-listed, not-empty, named_count, not_there}
use Rattle.qubits.proofs.OtherLaws.{there, pow-same}
use Rattle.qubit_offsets.specs.Calls.{density_refusal}
use Rattle.cut_sides.specs.Sides.{cut_sizes, cut_refusal}
use Rattle.cut_naming.specs.Reordered.{times, Reordered}

-- ---- times and `stands`

pub times_none : (q : ℕ) (l : List ℕ) → stands q l ≡ false → times q l ≡ 0
unfolding times stands
times_none q [] h = refl
times_none q (x ∷ l) h =
    elim (eqb x q) as (λ (b : Bool). (b || stands q l) ≡ false → cond b 1 0 + times q l ≡ 0) [
      | true ↦ λ g. let z : ◌≡◌ {A = ℕ} 0 1 = cc in absurd (omega arith)
      | false ↦ λ g. omega (arith, times_none q l g)
    ] h

pub times-some : (q : ℕ) (l : List ℕ) → stands q l ≡ true → 1 ≤ times q l
unfolding times stands
times-some q [] h = let z : ◌≡◌ {A = ℕ} 0 1 = cc in absurd (omega arith)
times-some q (x ∷ l) h =
    elim (eqb x q) as (λ (b : Bool). (b || stands q l) ≡ true → 1 ≤ cond b 1 0 + times q l) [
      | true ↦ λ g. omega arith
      | false ↦ λ g. omega (arith, times-some q l g)
    ] h

-- a qubit that stands somewhere, and one that does not
pub either : (q : ℕ) (l : List ℕ) → (stands q l ≡ true) ⊎ (stands q l ≡ false)
either q l = elim (stands q l) as (λ (b : Bool). (b ≡ true) ⊎ (b ≡ false)) [
  | true ↦ inl refl
  | false ↦ inr refl
]

pub times-append : (q : ℕ) (a b : List ℕ) → times q (a ++ b) ≡ times q a + times q b
unfolding times
times-append q [] b = omega arith
times-append q (x ∷ a) b = rw (times-append q a b) (omega arith)

pub times-self : (x : ℕ) (l : List ℕ) → times x (x ∷ l) ≡ 1 + times x l
unfolding times
times-self x l = let e : eqb x x ≡ true = eq-eqb x x refl in rw e

pub stands_at : (l : List ℕ) (k : ℕ) → k < length l → stands (get_or l k 0) l ≡ true
stands_at l k h =
    ⊎_elim (λ (e : stands (get_or l k 0) l ≡ true). e)
    (λ (e : stands (get_or l k 0) l ≡ false).
    absurd (omega (
      arith,
      times_none (get_or l k 0) l e,
      ap (times (get_or l k 0)) (split_at l k 0 h),
      times-append (get_or l k 0) (take k l) (get_or l k 0 ∷ drop (suc k) l),
      times-self (get_or l k 0) (drop (suc k) l),
    )))
    (either (get_or l k 0) l)

-- where a listed qubit stands
pub stands-index : (q : ℕ) (l : List ℕ) → stands q l ≡ true → (n : ℕ) → ((k : ℕ) → k < length l → get_or l k 0 < n) → q < n
unfolding stands
stands-index q [] h n b = let z : ◌≡◌ {A = ℕ} 0 1 = cc in absurd (omega arith)
stands-index q (x ∷ l) h n b =
    elim (eqb x q) as (λ (y : Bool). eqb x q ≡ y → (y || stands q l) ≡ true → q < n) [
      | true ↦ λ e g. rw (← eqb-true x q e) (b 0 (omega arith))
      | false ↦ λ e g. stands-index q l g n (λ k f. b (suc k) (omega arith))
    ] refl h

-- in an accepted list each qubit stands at most once
pub at-most-once : (l : List ℕ) → ((k : ℕ) → k < length l → stands (get_or l k 0) (take k l) ≡ false) → (q i : ℕ) → i ≤ length l → times q (take i l) ≤ 1
unfolding times
at-most-once l apart q zero h = omega arith
at-most-once l apart q (suc i) h =
    let k : i < length l = omega arith in
    let e : times q (take (suc i) l) ≡ times q (take i l) + times q (get_or l i 0 ∷ []) = ap (times q) (take-suc l i 0 k) ∙ times-append q (take i l) (get_or l i 0 ∷ []) in
    let r = at-most-once l apart q i (omega arith) in
    rw e
    (elim (eqb (get_or l i 0) q) as (λ (b : Bool). eqb (get_or l i 0) q ≡ b → times q (take i l) + (cond b 1 0 + 0) ≤ 1) [
      | true ↦ λ g. omega (arith, times_none q (take i l) (rw (eqb-true (get_or l i 0) q g) at (apart i k)))
      | false ↦ λ g. omega (arith, r)
    ] refl)

times-empty : (q : ℕ) (l : List ℕ) → length l ≡ 0 → times q l ≡ 0
unfolding times
times-empty q [] h = refl
times-empty q (x ∷ l) h = absurd (omega arith)

some : (k : ℕ) → (k ≡ 0 → ⊥) → 0 < k
some zero h = absurd (h refl)
some (suc k) h = omega arith

pub pass : (x b : Reply) → x.0 ≡ 0 → and_then x b ≡ b
pass x b h = rw h

-- a list with each of its qubits below n and nowhere before it is refused by neither 2 nor 3
pub places-pass : (n : ℕ) (l : List ℕ) (i : ℕ) (rest : List ℕ)
    → ((k : ℕ) → k < length rest → (get_or rest k 0 < n) × (stands (get_or rest k 0) (take (i + k) l) ≡ false)) → places_from n l i rest ≡ done
unfolding places_from
places-pass n l i [] h = refl
places-pass n l i (q ∷ rest) h =
    let a = h 0 (omega arith) in
    let e : i + 0 ≡ i = omega arith in
    let s : stands q (take i l) ≡ false = rw e at a.1 in
    rw (lt-leb n q a.0, s)
    (places-pass n l (suc i) rest
    (λ k g. let f : suc i + k ≡ i + suc k = omega arith in rw f (h (suc k) (omega arith))))

-- ---- the other order is accepted too

module _ (n : ℕ) (l l' : List ℕ) (same : Reordered l l') (e : (qubit_set n l).0 ≡ 0) where
  listed : Listed n l
  listed = is-listed n l e

  once-at-most : (q : ℕ) → times q l ≤ 1
  once-at-most q = rw (take-length l) at (at-most-once l listed.apart q (length l) (omega arith))

  below' : (k : ℕ) → k < length l' → get_or l' k 0 < n
  below' k h =
      let q = get_or l' k 0 in
      stands-index q l
      (⊎_elim (λ (g : stands q l ≡ true). g)
      (λ (g : stands q l ≡ false). absurd (omega (arith, times_none q l g, times-some q l' (stands_at l' k h), same q)))
      (either q l))
      n listed.below

  apart' : (k : ℕ) → k < length l' → stands (get_or l' k 0) (take k l') ≡ false
  apart' k h =
      let q = get_or l' k 0 in
      ⊎_elim
      (λ (g : stands q (take k l') ≡ true).
      absurd (omega (
        arith,
        times-some q (take k l') g,
        once-at-most q,
        same q,
        ap (times q) (split_at l' k 0 h),
        times-append q (take k l') (q ∷ drop (suc k) l'),
        times-self q (drop (suc k) l'),
      )))
      (λ (g : stands q (take k l') ≡ false). g)
      (either q (take k l'))

  pub same-stands : (q : ℕ) → stands q l ≡ stands q l'
  same-stands q =
      ⊎_elim
      (λ (g : stands q l ≡ true).
      ⊎_elim (λ (f : stands q l' ≡ true). g ∙ sym f)
      (λ (f : stands q l' ≡ false). absurd (omega (arith, times-some q l g, times_none q l' f, same q)))
      (either q l'))
      (λ (g : stands q l ≡ false).
      ⊎_elim (λ (f : stands q l' ≡ true). absurd (omega (arith, times_none q l g, times-some q l' f, same q)))
      (λ (f : stands q l' ≡ false). g ∙ sym f)
      (either q l'))
      (either q l)

  pub same-mask : named l ≡ named l'
  same-mask =
      same_digits (named l) (named l')
      (λ q. ⊎_elim
      (λ (g : stands q l ≡ true). there 0 l q g ∙ sym (there 0 l' q (sym (same-stands q) ∙ g)))
      (λ (g : stands q l ≡ false). not_there 0 l q g (rw zero-div) ∙ sym (not_there 0 l' q (sym (same-stands q) ∙ g) (rw zero-div)))
      (either q l))

  some' : length l' ≡ 0 → ⊥
  some' h =
      let k : 0 < length l = some (length l) (not-empty n l e) in
      omega (arith, times-some (get_or l 0 0) l (stands_at l 0 k), times-empty (get_or l 0 0) l' h, same (get_or l 0 0))

  -- ACCEPTANCE IS KEPT
  pub set-kept : qubit_set n l' ≡ done
  set-kept =
      let a = refuse-done (ltb n 1) 0 0 (refuse (ltb 12 n) (1, 0) (places n l)) e in
      let b = refuse-done (ltb 12 n) 0 0 (places n l) a.1 in
      let p : places_from n l' 0 l' ≡ done = places-pass n l' 0 l' (λ k h. (below' k h, rw zero-add (apart' k h))) in
      rw (a.0, b.0, p, ne_eqb (length l') 0 some')

  listed' : Listed n l'
  listed' = is-listed n l' (ap (λ (x : Reply). x.0) set-kept)

  pub same_length : length l ≡ length l'
  same_length = pow-same (length l) (length l') (sym (named_count n l listed) ∙ ap (submask_count n) same-mask ∙ named_count n l' listed')

pub density-kept : (n cap : ℕ) (l l' : List ℕ) → Reordered l l' → (density_refusal n cap l).0 ≡ 0 → (density_refusal n cap l').0 ≡ 0
density-kept n cap l l' same e =
    let a = and_then-done (density_sizes n (length l) cap) (qubit_set n l) e in
    let s : (density_sizes n (length l') cap).0 ≡ 0 = rw (← same_length n l l' same a.1) a.0 in
    ap (λ (x : Reply). x.0) (pass (density_sizes n (length l') cap) (qubit_set n l') s ∙ set-kept n l l' same a.1)

pub cut-kept : (n cap : ℕ) (l l' : List ℕ) → Reordered l l' → (cut_refusal l n cap).0 ≡ 0 → (cut_refusal l' n cap).0 ≡ 0
cut-kept n cap l l' same e =
    let a = and_then-done (cut_sizes n cap) (subsystem n l) e in
    let b = and_then-done (qubit_set n l) (refuse (eqb (length l) n) (5, 0) done) a.1 in
    let q : qubit_set n l' ≡ done = set-kept n l l' same b.0 in
    let w : (refuse (eqb (length l') n) (5, 0) done).0 ≡ 0 = rw (← same_length n l l' same b.0) b.1 in
    ap (λ (x : Reply). x.0)
    (pass (cut_sizes n cap) (subsystem n l') a.0 ∙ pass (qubit_set n l') (refuse (eqb (length l') n) (5, 0) done) (ap (λ (x : Reply). x.0) q))
    ∙ w

pub set-of-cut : (n cap : ℕ) (l : List ℕ) → (cut_refusal l n cap).0 ≡ 0 → (qubit_set n l).0 ≡ 0
set-of-cut n cap l e =
    (and_then-done (qubit_set n l) (refuse (eqb (length l) n) (5, 0) done) (and_then-done (cut_sizes n cap) (subsystem n l) e).1).0
