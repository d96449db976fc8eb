-- Eight sums side by side. Where all are finite, each number that went into one is allowed. Assumes nothing.
use mathlib.Core.Path.{◌≡◌, refl}
use mathlib.Core.Bool.{Bool, true, false}
use mathlib.Core.List.{List, [], ◌∷◌}
use mathlib.Core.Logic.{◌⊎◌, inl, inr}
use Prim.Native.Nat.{ℕ, zero, suc, ◌+◌, ◌-◌, ◌≤◌, ◌<◌}
use native.Mathlib.Omega.{arith}
use borrow.Author.Tests.{ltb-true, ltb-false}
use lib.Dec.{ltb}
use lib.Ieee.{Float, nan, binary64, add, mul}
use lib.ListN.{length, get_or}
use Rattle.numbers.specs.Numbers.{is_finite, allowed}
use Rattle.scaled.specs.Each.{EachAllowed}
use Rattle.scaled.specs.declared.Sums.{Sums}
use Rattle.scaled.specs.Eight.{with_scaled, with_eight, joined_four, joined}
use Rattle.scaled.specs.Scale.{scale}
use Rattle.scaled.proofs.ScaleLaws.{sum-finite, scaled-finite}

abbrev list_of : Sums → List Float
list_of q = q.sum0 ∷ q.sum1 ∷ q.sum2 ∷ q.sum3 ∷ q.sum4 ∷ q.sum5 ∷ q.sum6 ∷ q.sum7 ∷ []

abbrev Finite : List Float → Type 0
Finite [] = Unit
Finite (q ∷ qs) = (is_finite q ≡ true) × Finite qs

abbrev Allowed : List Float → Type 0
Allowed [] = Unit
Allowed (x ∷ xs) = (allowed x ≡ true) × Allowed xs

-- to each sum one more number
abbrev more : List Float → List Float → List Float
more [] xs = []
more (q ∷ qs) [] = q ∷ qs
more (q ∷ qs) (x ∷ xs) = with_scaled q x ∷ more qs xs

more-finite : (qs xs : List Float) → length xs ≤ length qs → Finite (more qs xs) → Finite qs × Allowed xs
more-finite [] [] h b = (tt, tt)
more-finite [] (x ∷ xs) h b = absurd (omega arith)
more-finite (q ∷ qs) [] h b = (b, tt)
more-finite (q ∷ qs) (x ∷ xs) h b =
    let s = sum-finite q (mul binary64 x scale) b.0 in
    let r = more-finite qs xs (omega arith) b.1 in
    ((s.0, r.0), (scaled-finite x s.1, r.1))

-- ---- eight numbers at a time

abbrev eight : List Float → ℕ → List Float
eight s i =
    get_or s i nan ∷ get_or s (i + 1) nan ∷ get_or s (i + 2) nan ∷ get_or s (i + 3) nan ∷ get_or s (i + 4) nan ∷ get_or s (i + 5) nan ∷ get_or s (i + 6) nan ∷ get_or s (i + 7) nan ∷ []

eight-at : (s : List Float) (i j : ℕ) → Allowed (eight s i) → i ≤ j → j < i + 8 → allowed (get_or s j nan) ≡ true
eight-at s i j a h g = pick (j - i) (omega arith)
  where
    at : (n : ℕ) → n ≡ j → allowed (get_or s n nan) ≡ true → allowed (get_or s j nan) ≡ true
    at n e b = rw e at b

    pick : (k : ℕ) → i + k ≡ j → allowed (get_or s j nan) ≡ true
    pick zero e = at i (omega arith) a.0
    pick (suc zero) e = at (i + 1) (omega arith) a.1.0
    pick (suc (suc zero)) e = at (i + 2) (omega arith) a.1.1.0
    pick (suc (suc (suc zero))) e = at (i + 3) (omega arith) a.1.1.1.0
    pick (suc (suc (suc (suc zero)))) e = at (i + 4) (omega arith) a.1.1.1.1.0
    pick (suc (suc (suc (suc (suc zero))))) e = at (i + 5) (omega arith) a.1.1.1.1.1.0
    pick (suc (suc (suc (suc (suc (suc zero)))))) e = at (i + 6) (omega arith) a.1.1.1.1.1.1.0
    pick (suc (suc (suc (suc (suc (suc (suc zero))))))) e = at (i + 7) (omega arith) a.1.1.1.1.1.1.1.0
    pick (suc (suc (suc (suc (suc (suc (suc (suc k)))))))) e = absurd (omega arith)

before-or-from : (j i : ℕ) → (j < i) ⊎ (i ≤ j)
before-or-from j i = elim (ltb j i) as (λ (x : Bool). ltb j i ≡ x → (j < i) ⊎ (i ≤ j)) [ true ↦ λ h. inl (ltb-true j i h) | false ↦ λ h. inr (ltb-false j i h) ] refl

-- The sums hold n numbers from place `from` on: where all sums are finite those numbers are allowed.
pub record Holds (s : List Float) (from n : ℕ) (q : Sums) : Type 0 where
  each : Finite (list_of q) → (j : ℕ) → from ≤ j → j < from + n → allowed (get_or s j nan) ≡ true

eight-finite : (q : Sums) (s : List Float) (i : ℕ) → Finite (list_of (with_eight q s i)) → Finite (list_of q) × Allowed (eight s i)
eight-finite q s i b = more-finite (list_of q) (eight s i) (omega arith) b

pub holds-none : {s : List Float} {from : ℕ} {q : Sums} → Holds s from 0 q
holds-none = record { each = λ b j l g. absurd (omega arith) }

-- What sums hold they still hold with eight more, and the eight as well where these come next.
pub holds-still : {s : List Float} {from n : ℕ} (i : ℕ) {q r : Sums} → Holds s from n q → r ≡ with_eight q s i → Holds s from n r
holds-still {s} i {q} h e = rw e record { each = λ b. h.each (eight-finite q s i b).0 }

pub holds_more : {s : List Float} {from n : ℕ} (i : ℕ) {q r : Sums} → Holds s from n q → r ≡ with_eight q s i → i ≡ from + n → Holds s from (n + 8) r
holds_more {s} i {q} h e p =
    rw e
    record {
      each = λ b j l g. let a = eight-finite q s i b in elim (before-or-from j i) [ inl k ↦ h.each a.0 j l (omega arith) | inr k ↦ eight-at s i j a.1 k (omega arith) ];
    }

-- ---- the eight sums joined

four-finite : (a b c d : Float) → is_finite (joined_four a b c d) ≡ true → Finite (a ∷ b ∷ c ∷ d ∷ [])
four-finite a b c d h =
    let t = sum-finite (add binary64 a b) (add binary64 c d) h in
    let u = sum-finite a b t.0 in
    let v = sum-finite c d t.1 in
    (u.0, (u.1, (v.0, (v.1, tt))))

joined-finite : (q : Sums) → is_finite (joined q) ≡ true → Finite (list_of q)
joined-finite q h =
    let t = sum-finite (joined_four q.sum0 q.sum4 q.sum2 q.sum6) (joined_four q.sum1 q.sum5 q.sum3 q.sum7) h in
    let u = four-finite q.sum0 q.sum4 q.sum2 q.sum6 t.0 in
    let v = four-finite q.sum1 q.sum5 q.sum3 q.sum7 t.1 in
    (u.0, (v.0, (u.1.1.0, (v.1.1.0, (u.1.0, (v.1.0, (u.1.1.1.0, (v.1.1.1.0, tt))))))))

-- One set of sums holds the last eight numbers and the first half, another the second half: where both joined are finite, every number is allowed.
pub holds-all :
    {s : List Float} {last half i : ℕ} {q r : Sums} →
    Holds s last 8 q → Holds s 0 i q → Holds s half i r → length s ≡ last + 8 → half ≤ i → last ≤ half + i → is_finite (add binary64 (joined q) (joined r)) ≡ true → EachAllowed s
holds-all {s} {last} {half} {i} {q} {r} back front others e l m b j g =
    let t = sum-finite (joined q) (joined r) b in
    let c = joined-finite q t.0 in
    elim (before-or-from j i) [
      | inl p ↦ front.each c j (omega arith) (omega arith)
      | inr p ↦ elim (before-or-from j (half + i)) [
        | inl n ↦ others.each (joined-finite r t.1) j (omega arith) n
        | inr n ↦ back.each c j (omega arith) (omega arith)
      ]
    ]
