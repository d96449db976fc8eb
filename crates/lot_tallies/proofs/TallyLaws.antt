-- Laws of the numbers of a sheet: what one more result does to each. Assumes nothing.
use mathlib.Core.Path.{◌≡◌, refl, sym, ap, subst, ◌∙◌}
use mathlib.Core.Logic.{◌⊎◌, inl, inr, ⊎_elim}
use mathlib.Core.Bool.{Bool, true, false, cond}
use mathlib.Core.List.{List, [], ◌∷◌, ◌++◌}
use Prim.Native.Nat.{ℕ, zero, suc, ◌+◌, ◌≤◌, ◌<◌, min, max}
use native.Mathlib.Nat.{min-le_left, min-le_right, le-min, min-eq_left, min-eq_right, max-eq_left, max-eq_right, le-max_left, le-max_right, max-le, eq-or-lt_of_le}
use native.Mathlib.Omega.{arith}
use lib.Dec.{eqb}
use lib.ListN.{length, get_or, set, length-append, length-set, get_or-append}
use lib.Seq.{get_or_at, get_or-set_same, get_or-set_other, ext_get_or}
use borrow.Author.Tests.{eq-eqb, ne_eqb, eqb-true, eqb-false}
use Rattle.whole_numbers.proofs.WholeLaws.{le-or-lt}
use Rattle.lot_tallies.specs.Tallies.{Single, one, how_many, count_is, rank_is, lesser, smallest, largest, first_from, rank_sum, each}

-- ---- a row of numbers

pub length-each : (m : ℕ) (f : ℕ → ℕ) → length (each m f) ≡ m
unfolding each
length-each zero f = refl
length-each (suc m) f = length-append (each m f) (f m ∷ []) ∙ omega (arith, length-each m f)

pub each_at : (m : ℕ) (f : ℕ → ℕ) (i : ℕ) → i < m → get_or (each m f) i 0 ≡ f i
unfolding each
each_at zero f i h = absurd (omega arith)
each_at (suc m) f i h =
    ⊎_elim
    (λ (e : i ≡ m). rw e (get_or_at (each m f) (f m) [] 0 m (length-each m f)))
    (λ (e : i < m). get_or-append (each m f) (f m ∷ []) 0 i (omega (arith, length-each m f)) ∙ each_at m f i e)
    (eq-or-lt_of_le (omega arith))

-- a list with these numbers is that row
pub is-each : (m : ℕ) (f : ℕ → ℕ) (l : List ℕ) → length l ≡ m → ((i : ℕ) → i < m → get_or l i 0 ≡ f i) → l ≡ each m f
is-each m f l n h = ext_get_or 0 l (each m f) (n ∙ sym (length-each m f)) (λ i g. h i (omega arith) ∙ sym (each_at m f i (omega arith)))

pub each_same : (m : ℕ) (f g : ℕ → ℕ) → ((i : ℕ) → i < m → f i ≡ g i) → each m f ≡ each m g
each_same m f g h = is-each m g (each m f) (length-each m f) (λ i k. each_at m f i k ∙ h i k)

-- the row with one of its numbers set
pub each_set : (m : ℕ) (f g : ℕ → ℕ) (k v : ℕ) → k < m → v ≡ g k → ((i : ℕ) → (i ≡ k → ⊥) → f i ≡ g i) → set (each m f) k v ≡ each m g
each_set m f g k v h e o = is-each m g (set (each m f) k v) (length-set (each m f) k v ∙ length-each m f) at
  where
    by : (i : ℕ) → i < m → (b : Bool) → eqb i k ≡ b → get_or (set (each m f) k v) i 0 ≡ g i
    by i l true t =
        let s : i ≡ k = eqb-true i k t in
        rw s (get_or-set_same (each m f) k v 0 (omega (arith, length-each m f)) ∙ e)
    by i l false t = get_or-set_other (each m f) k i v 0 (eqb-false i k t) ∙ each_at m f i l ∙ o i (eqb-false i k t)

    at : (i : ℕ) → i < m → get_or (set (each m f) k v) i 0 ≡ g i
    at i l = by i l (eqb i k) refl

-- ---- counts

pub many_more : (f : Single → Bool) (rs : List Single) (x : Single) → how_many f (rs ++ x ∷ []) ≡ how_many f rs + one (f x)
unfolding how_many
many_more f [] x = omega arith
many_more f (y ∷ rs) x = omega (arith, many_more f rs x)

one-few : (b : Bool) → one b ≤ 1
one-few true = omega arith
one-few false = omega arith

pub many-few : (f : Single → Bool) (rs : List Single) → how_many f rs ≤ length rs
unfolding how_many
many-few f [] = omega arith
many-few f (x ∷ rs) = omega (arith, many-few f rs, one-few (f x))

one-yes : (a b : ℕ) → a ≡ b → one (eqb a b) ≡ 1
one-yes a b e = ap one (eq-eqb a b e)

one-no : (a b : ℕ) → (a ≡ b → ⊥) → one (eqb a b) ≡ 0
one-no a b h = ap one (ne_eqb a b h)

-- one more result is counted under its number, and under no other
pub count-this : (rs : List Single) (number rank : ℕ) → count_is number rs + 1 ≡ count_is number (rs ++ (number, rank) ∷ [])
count-this rs number rank = omega (arith, many_more (λ x. eqb x.0 number) rs (number, rank), one-yes number number refl)

pub count-other : (rs : List Single) (number rank k : ℕ) → (k ≡ number → ⊥) → count_is k rs ≡ count_is k (rs ++ (number, rank) ∷ [])
count-other rs number rank k h = omega (arith, many_more (λ x. eqb x.0 k) rs (number, rank), one-no number k (λ e. h (sym e)))

pub rank-this : (rs : List Single) (number rank : ℕ) → rank_is rank rs + 1 ≡ rank_is rank (rs ++ (number, rank) ∷ [])
rank-this rs number rank = omega (arith, many_more (λ x. eqb x.1 rank) rs (number, rank), one-yes rank rank refl)

pub rank-other : (rs : List Single) (number rank k : ℕ) → (k ≡ rank → ⊥) → rank_is k rs ≡ rank_is k (rs ++ (number, rank) ∷ [])
rank-other rs number rank k h = omega (arith, many_more (λ x. eqb x.1 k) rs (number, rank), one-no rank k (λ e. h (sym e)))

-- ---- the sum

pub sum_more : (rs : List Single) (x : Single) → rank_sum (rs ++ x ∷ []) ≡ rank_sum rs + x.1
unfolding rank_sum
sum_more [] x = omega arith
sum_more (y ∷ rs) x = omega (arith, sum_more rs x)

-- ---- the smaller of two ranks

pub lesser-either : (a b : ℕ) → (lesser a b ≡ a) ⊎ (lesser a b ≡ b)
lesser-either zero b = inr refl
lesser-either (suc a) zero = inl refl
lesser-either (suc a) (suc b) =
    ⊎_elim (λ (h : suc a ≤ suc b). inl (min-eq_left h)) (λ (h : suc b < suc a). inr (min-eq_right (omega arith))) (le-or-lt (suc a) (suc b))

pub lesser-left : (a b : ℕ) → 1 ≤ a → (1 ≤ lesser a b) × (lesser a b ≤ a)
lesser-left zero b h = absurd (omega arith)
lesser-left (suc a) zero h = (omega arith, omega arith)
lesser-left (suc a) (suc b) h =
    let low : 1 ≤ min (suc a) (suc b) = le-min (omega arith) (omega arith) in
    (low, min-le_left (suc a) (suc b))

pub lesser-right : (a b : ℕ) → 1 ≤ b → (1 ≤ lesser a b) × (lesser a b ≤ b)
lesser-right zero b h = (h, omega arith)
lesser-right (suc a) zero h = absurd (omega arith)
lesser-right (suc a) (suc b) h =
    let low : 1 ≤ min (suc a) (suc b) = le-min (omega arith) (omega arith) in
    (low, min-le_right (suc a) (suc b))

min-both : (a b c : ℕ) → min a (min b c) ≡ min (min a b) c
min-both a b c =
    let l = min a (min b c) in
    let r = min (min a b) c in
    let up : l ≤ r = le-min (le-min (min-le_left a (min b c)) (omega (arith, min-le_right a (min b c), min-le_left b c))) (omega (arith, min-le_right a (min b c), min-le_right b c)) in
    let down : r ≤ l = le-min (omega (arith, min-le_left (min a b) c, min-le_left a b)) (le-min (omega (arith, min-le_left (min a b) c, min-le_right a b)) (min-le_right (min a b) c)) in
    omega (arith, up, down)

max-both : (a b c : ℕ) → max a (max b c) ≡ max (max a b) c
max-both a b c =
    let l = max a (max b c) in
    let r = max (max a b) c in
    let up : l ≤ r = max-le (omega (arith, le-max_left a b, le-max_left (max a b) c)) (max-le (omega (arith, le-max_right a b, le-max_left (max a b) c)) (le-max_right (max a b) c)) in
    let down : r ≤ l = max-le (max-le (le-max_left a (max b c)) (omega (arith, le-max_left b c, le-max_right a (max b c)))) (omega (arith, le-max_right b c, le-max_right a (max b c))) in
    omega (arith, up, down)

pub lesser-zero : (a : ℕ) → lesser a 0 ≡ a
lesser-zero zero = refl
lesser-zero (suc a) = refl

min-suc : (a b : ℕ) → (c : ℕ) × (min (suc a) (suc b) ≡ suc c)
min-suc a b =
    ⊎_elim (λ (h : suc a ≤ suc b). (a, min-eq_left h)) (λ (h : suc b < suc a). (b, min-eq_right (omega arith))) (le-or-lt (suc a) (suc b))

lesser-min : (a b c : ℕ) → lesser (min (suc a) (suc b)) (suc c) ≡ min (min (suc a) (suc b)) (suc c)
lesser-min a b c = let m = min-suc a b in rw m.1 refl

min-lesser : (a b c : ℕ) → lesser (suc a) (min (suc b) (suc c)) ≡ min (suc a) (min (suc b) (suc c))
min-lesser a b c = let m = min-suc b c in rw m.1 refl

lesser-both : (a b c : ℕ) → lesser a (lesser b c) ≡ lesser (lesser a b) c
lesser-both zero b c = refl
lesser-both (suc a) zero c = refl
lesser-both (suc a) (suc b) zero = sym (lesser-zero (lesser (suc a) (suc b)))
lesser-both (suc a) (suc b) (suc c) = min-lesser a b c ∙ min-both (suc a) (suc b) (suc c) ∙ sym (lesser-min a b c)

-- ---- the smallest and the largest rank

pub smallest-more : (rs : List Single) (x : Single) → smallest (rs ++ x ∷ []) ≡ lesser (smallest rs) x.1
unfolding smallest
smallest-more [] x = lesser-zero x.1
smallest-more (y ∷ rs) x = ap (lesser y.1) (smallest-more rs x) ∙ lesser-both y.1 (smallest rs) x.1

pub largest-more : (rs : List Single) (x : Single) → largest (rs ++ x ∷ []) ≡ max (largest rs) x.1
unfolding largest
largest-more [] x = max-eq_left (omega arith) ∙ sym (max-eq_right (omega arith))
largest-more (y ∷ rs) x = ap (max y.1) (largest-more rs x) ∙ max-both y.1 (largest rs) x.1

-- the smallest rank is a file's
pub smallest-held : (rs : List Single) → 1 ≤ smallest rs → 1 ≤ rank_is (smallest rs) rs
unfolding smallest how_many
smallest-held [] h = absurd (omega arith)
smallest-held (x ∷ rs) h =
    ⊎_elim
    (λ (e : lesser x.1 (smallest rs) ≡ x.1). omega (arith, one-yes x.1 (lesser x.1 (smallest rs)) (sym e)))
    (λ (e : lesser x.1 (smallest rs) ≡ smallest rs).
    subst (λ (s : ℕ). 1 ≤ one (eqb x.1 s) + rank_is s rs) (sym e) (omega (arith, smallest-held rs (omega arith))))
    (lesser-either x.1 (smallest rs))

pub largest-held : (rs : List Single) → 1 ≤ largest rs → 1 ≤ rank_is (largest rs) rs
unfolding largest how_many
largest-held [] h = absurd (omega arith)
largest-held (x ∷ rs) h =
    ⊎_elim
    (λ (l : x.1 ≤ largest rs).
    let e : max x.1 (largest rs) ≡ largest rs = max-eq_right l in
    subst (λ (s : ℕ). 1 ≤ one (eqb x.1 s) + rank_is s rs) (sym e) (omega (arith, largest-held rs (omega arith))))
    (λ (l : largest rs < x.1).
    let e : max x.1 (largest rs) ≡ x.1 = max-eq_left (omega arith) in
    omega (arith, one-yes x.1 (max x.1 (largest rs)) (sym e)))
    (le-or-lt x.1 (largest rs))

-- no accepted file's rank is smaller, or larger
pub smallest-least : (rs : List Single) (r : ℕ) → 1 ≤ r → 1 ≤ rank_is r rs → (1 ≤ smallest rs) × (smallest rs ≤ r)
unfolding smallest how_many
smallest-least [] r h k = absurd (omega arith)
smallest-least (x ∷ rs) r h k = by (smallest-least rs r h) (eqb x.1 r) refl
  where
    by : (1 ≤ rank_is r rs → (1 ≤ smallest rs) × (smallest rs ≤ r)) → (b : Bool) → eqb x.1 r ≡ b → (1 ≤ lesser x.1 (smallest rs)) × (lesser x.1 (smallest rs) ≤ r)
    by again true t =
        let e : x.1 ≡ r = eqb-true x.1 r t in
        let l = lesser-left x.1 (smallest rs) (omega arith) in
        (l.0, omega (arith, l.1))
    by again false t =
        let s = again (omega (arith, ap one t)) in
        let l = lesser-right x.1 (smallest rs) s.0 in
        (l.0, omega (arith, l.1, s.1))

pub largest-most : (rs : List Single) (r : ℕ) → 1 ≤ rank_is r rs → r ≤ largest rs
unfolding largest how_many
largest-most [] r k = absurd (omega arith)
largest-most (x ∷ rs) r k = by (largest-most rs r) (eqb x.1 r) refl
  where
    by : (1 ≤ rank_is r rs → r ≤ largest rs) → (b : Bool) → eqb x.1 r ≡ b → r ≤ max x.1 (largest rs)
    by again true t = omega (arith, eqb-true x.1 r t, le-max_left x.1 (largest rs))
    by again false t = omega (arith, again (omega (arith, ap one t)), le-max_right x.1 (largest rs))

-- ---- the first file with a rank

pub first-stays : (i r : ℕ) (rs : List Single) (x : Single) → 1 ≤ rank_is r rs → first_from i r (rs ++ x ∷ []) ≡ first_from i r rs
unfolding first_from how_many
first-stays i r [] x h = absurd (omega arith)
first-stays i r (y ∷ rs) x h = by (first-stays (suc i) r rs x) (eqb y.1 r) refl
  where
    by : (1 ≤ rank_is r rs → first_from (suc i) r (rs ++ x ∷ []) ≡ first_from (suc i) r rs) → (b : Bool) → eqb y.1 r ≡ b → cond (eqb y.1 r) i (first_from (suc i) r (rs ++ x ∷ [])) ≡ cond (eqb y.1 r) i (first_from (suc i) r rs)
    by again true t = rw t refl
    by again false t = rw t (again (omega (arith, ap one t)))

pub first-new : (i r : ℕ) (rs : List Single) (x : Single) → rank_is r rs ≡ 0 → x.1 ≡ r → first_from i r (rs ++ x ∷ []) ≡ i + length rs
unfolding first_from how_many
first-new i r [] x h e = rw (eq-eqb x.1 r e) (omega arith)
first-new i r (y ∷ rs) x h e = by (λ n. first-new (suc i) r rs x n e) (eqb y.1 r) refl
  where
    by : (rank_is r rs ≡ 0 → first_from (suc i) r (rs ++ x ∷ []) ≡ suc i + length rs) → (b : Bool) → eqb y.1 r ≡ b → cond (eqb y.1 r) i (first_from (suc i) r (rs ++ x ∷ [])) ≡ i + suc (length rs)
    by again true t = absurd (omega (arith, ap one t))
    by again false t = rw t (again (omega (arith, ap one t)) ∙ omega arith)

pub first-passed : (i r : ℕ) (rs : List Single) (x : Single) → (x.1 ≡ r → ⊥) → first_from i r (rs ++ x ∷ []) ≡ first_from i r rs
unfolding first_from
first-passed i r [] x h = rw (ne_eqb x.1 r h) refl
first-passed i r (y ∷ rs) x h = ap (cond (eqb y.1 r) i) (first-passed (suc i) r rs x h)
