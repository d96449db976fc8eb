-- Laws of a plan's lists: padded, with a qubit left out, compared. Assumes nothing.
use mathlib.Core.Path.{◌≡◌, refl, sym, ap, ap₂, ◌∙◌}
use mathlib.Core.Bool.{Bool, true, false, cond, ◌&&◌, true≢false}
use mathlib.Core.List.{List, [], ◌∷◌, ◌++◌, append-nil}
use Prim.Native.Nat.{ℕ, suc, ◌+◌, ◌≤◌, ◌<◌}
use native.Mathlib.Numerals.{add-one}
use native.Mathlib.Omega.{arith}
use borrow.Author.Tests.{eqb-true, eq-eqb, ne_eqb}
use lib.Dec.{eqb}
use lib.Pointwise.{pointwise}
use lib.ListN.{length, set, take, drop, get_or, replicate, length-append, length-replicate}
use lib.Seq.{take-suc, take_at}
use Rattle.qubit_offsets.proofs.CallLaws.{length-fronted}
use Rattle.cut_sides.proofs.SideLaws.{fronted-more}
use Rattle.plan_lists.specs.Padded.{padded, without, same_list}

-- ---- padded

pub length-padded : (l : List ℕ) → length l ≤ 12 → length (padded l) ≡ 12
length-padded l h = length-fronted l (replicate 12 0) (rw (length-replicate {A = ℕ} 12 0) h) ∙ length-replicate {A = ℕ} 12 0

-- the list is read back
pub front-padded : (l : List ℕ) → take (length l) (padded l) ≡ l
front-padded l = take_at l (drop (length l) (replicate 12 0)) (length l) refl

pub padded-more : (v : List ℕ) (x : ℕ) → length v < 12 → set (padded v) (length v) x ≡ padded (v ++ x ∷ [])
padded-more v x h = fronted-more v (replicate 12 0) x (rw (length-replicate {A = ℕ} 12 0) h)

-- ---- a qubit left out

without-nil : (q : ℕ) → without q [] ≡ []
unfolding without
without-nil q = refl

without-append : (q : ℕ) (a b : List ℕ) → without q (a ++ b) ≡ without q a ++ without q b
unfolding without
without-append q [] b = refl
without-append q (x ∷ a) b =
    elim (eqb x q) as (λ (t : Bool). cond t (without q (a ++ b)) (x ∷ without q (a ++ b)) ≡ cond t (without q a) (x ∷ without q a) ++ without q b) [
      | true ↦ without-append q a b
      | false ↦ ap (λ (l : List ℕ). x ∷ l) (without-append q a b)
    ]

without-self : (q x : ℕ) → x ≡ q → without q (x ∷ []) ≡ []
unfolding without
without-self q x e = rw (eq-eqb x q e)

without_other : (q x : ℕ) → (x ≡ q → ⊥) → without q (x ∷ []) ≡ x ∷ []
unfolding without
without_other q x e = rw (ne_eqb x q e)

pub without-short : (q : ℕ) (l : List ℕ) → length (without q l) ≤ length l
unfolding without
without-short q [] = omega arith
without-short q (x ∷ l) =
    elim (eqb x q) as (λ (t : Bool). length (cond t (without q l) (x ∷ without q l)) ≤ suc (length l)) [
      | true ↦ omega (arith, without-short q l)
      | false ↦ omega (arith, without-short q l)
    ]

-- ---- the loop that leaves q out: what is kept of the first i numbers stands at the front

pub record Leaving (l : List ℕ) (q i count : ℕ) (out : List ℕ) : Type 0 where
  pub more : i ≤ length l
  pub low : count ≤ i
  pub counted : count ≡ length (without q (take i l))
  pub front : out ≡ padded (without q (take i l))

module _ (l : List ℕ) (q : ℕ) (short : length l ≤ 12) where
  pub leave-begin : Leaving l q 0 0 (replicate 12 0)
  unfolding without
  leave-begin = record { more = omega arith; low = omega arith; counted = refl; front = refl }

  module _ (i count : ℕ) (out : List ℕ) (p : Leaving l q i count out) where
    next : i < length l → without q (take (i + 1) l) ≡ without q (take i l) ++ without q (get_or l i 0 ∷ [])
    next h = ap (λ (j : ℕ). without q (take j l)) (add-one i) ∙ ap (without q) (take-suc l i 0 h) ∙ without-append q (take i l) (get_or l i 0 ∷ [])

    pub leave-keep : i < length l → (get_or l i 0 ≡ q → ⊥) → Leaving l q (i + 1) (count + 1) (set out count (get_or l i 0))
    leave-keep h d =
        let e : without q (take (i + 1) l) ≡ without q (take i l) ++ get_or l i 0 ∷ [] = next h ∙ ap (λ (b : List ℕ). without q (take i l) ++ b) (without_other q (get_or l i 0) d) in
        let g : length (without q (take i l)) < 12 = omega (arith, p.counted, p.low) in
        record {
          more = omega arith;
          low = omega (arith, p.low);
          counted = ap (λ (x : ℕ). x + 1) p.counted ∙ sym (ap length e ∙ length-append (without q (take i l)) (get_or l i 0 ∷ []));
          front =
              ap₂ (λ (o : List ℕ) (j : ℕ). set o j (get_or l i 0)) p.front p.counted
              ∙ padded-more (without q (take i l)) (get_or l i 0) g
              ∙ ap padded (sym e);
        }

    pub leave-skip : i < length l → get_or l i 0 ≡ q → Leaving l q (i + 1) count out
    leave-skip h d =
        let e : without q (take (i + 1) l) ≡ without q (take i l) = next h ∙ ap (λ (b : List ℕ). without q (take i l) ++ b) (without-self q (get_or l i 0) d) ∙ append-nil (without q (take i l)) in
        record { more = omega arith; low = omega (arith, p.low); counted = rw e p.counted; front = rw e p.front }

-- ---- the same list

pub first_of : (a b : Bool) → (a && b) ≡ true → a ≡ true
first_of true b e = refl
first_of false b e = e

pub second-of : (a b : Bool) → (a && b) ≡ true → b ≡ true
second-of true b e = e
second-of false b e = absurd (true≢false (sym e))

pub same-is : (a b : List ℕ) → same_list a b ≡ true → a ≡ b
unfolding same_list
same-is [] [] e = refl
same-is [] (y ∷ m) e = absurd (true≢false (sym e))
same-is (x ∷ l) [] e = absurd (true≢false (sym e))
same-is (x ∷ l) (y ∷ m) e = ap₂ (λ (h : ℕ) (t : List ℕ). h ∷ t) (eqb-true x y (first_of (eqb x y) (same_list l m) e)) (same-is l m (second-of (eqb x y) (same_list l m) e))

pub is_same : (a : List ℕ) → same_list a a ≡ true
unfolding same_list
is_same [] = refl
is_same (x ∷ l) = rw (eq-eqb x x refl) (is_same l)

-- the library's comparison of two arrays
pub pointwise-same : (a b : List ℕ) → pointwise eqb a b ≡ same_list a b
unfolding same_list
pointwise-same [] [] = refl
pointwise-same [] (y ∷ m) = refl
pointwise-same (x ∷ l) [] = refl
pointwise-same (x ∷ l) (y ∷ m) = ap (λ (b : Bool). eqb x y && b) (pointwise-same l m)
