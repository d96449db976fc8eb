-- What a reader may want to know of a sheet. Assumes nothing.
use mathlib.Core.Path.{◌≡◌, refl, sym, ap, ◌∙◌}
use mathlib.Core.Bool.{Bool, true, false, cond}
use mathlib.Core.List.{List, [], ◌∷◌, ◌++◌}
use Prim.Native.Nat.{ℕ, zero, suc, ◌+◌, ◌-◌, ◌≤◌, ◌<◌}
use native.Mathlib.Omega.{arith}
use lib.Dec.{eqb}
use lib.ListN.{length, get_or}
use borrow.Author.Tests.{eq-eqb, ne_eqb, eqb-true, eqb-false}
use Rattle.lot_tallies.specs.Tallies.{Single, Fair, AllFair, one, how_many, count_is, rank_is, smallest, largest, first_from, first_with, each, sheet_of, add_up}
use Rattle.lot_tallies.proofs.TallyLaws.{smallest-held, largest-held, smallest-least, largest-most, each_at, each_same}
use Rattle.lot_tallies.proofs.SheetLaws.{fair-first, fair-rest}

-- ---- rows of counts add up

add-last : (l : List ℕ) (x : ℕ) → add_up (l ++ x ∷ []) ≡ add_up l + x
unfolding add_up
add-last [] x = omega arith
add-last (y ∷ l) x = omega (arith, add-last l x)

add-zero : (m : ℕ) → add_up (each m (λ k. 0)) ≡ 0
unfolding each add_up
add-zero zero = refl
add-zero (suc m) = omega (arith, add-last (each m (λ k. 0)) 0, add-zero m)

add-both : (m : ℕ) (f g : ℕ → ℕ) → add_up (each m (λ k. f k + g k)) ≡ add_up (each m f) + add_up (each m g)
unfolding each add_up
add-both zero f g = omega arith
add-both (suc m) f g =
    omega (arith, add-last (each m (λ k. f k + g k)) (f m + g m), add-last (each m f) (f m), add-last (each m g) (g m), add-both m f g)

-- a number is one of a row of tests, or none of them
past : (m a : ℕ) → m ≤ a → add_up (each m (λ k. one (eqb a k))) ≡ 0
unfolding each add_up
past zero a h = refl
past (suc m) a h =
    omega (arith, add-last (each m (λ k. one (eqb a k))) (one (eqb a m)), past m a (omega arith), ap one (ne_eqb a m (λ e. omega arith)))

among : (m a : ℕ) → a < m → add_up (each m (λ k. one (eqb a k))) ≡ 1
unfolding each
among zero a h = absurd (omega arith)
among (suc m) a h = by (among m a) (eqb a m) refl
  where
    by : (a < m → add_up (each m (λ k. one (eqb a k))) ≡ 1) → (b : Bool) → eqb a m ≡ b → add_up (each m (λ k. one (eqb a k)) ++ one (eqb a m) ∷ []) ≡ 1
    by again true t =
        let e : a ≡ m = eqb-true a m t in
        omega (arith, add-last (each m (λ k. one (eqb a k))) (one (eqb a m)), past m a (omega arith), ap one t)
    by again false t =
        let n = eqb-false a m t in
        omega (arith, add-last (each m (λ k. one (eqb a k))) (one (eqb a m)), again (omega (arith, n)), ap one t)

-- the same, for tests of the numbers from 1 on
shift : (a k : ℕ) → one (eqb (suc a) (suc k)) ≡ one (eqb a k)
shift a k = by (eqb a k) refl
  where
    by : (b : Bool) → eqb a k ≡ b → one (eqb (suc a) (suc k)) ≡ one (eqb a k)
    by true t = ap one (eq-eqb (suc a) (suc k) (ap suc (eqb-true a k t))) ∙ sym (ap one t)
    by false t = ap one (ne_eqb (suc a) (suc k) (λ e. eqb-false a k t (omega arith))) ∙ sym (ap one t)

rank-zero : (m : ℕ) → add_up (each m (λ k. one (eqb 0 (suc k)))) ≡ 0
unfolding each add_up
rank-zero zero = refl
rank-zero (suc m) = omega (arith, add-last (each m (λ k. one (eqb 0 (suc k)))) (one (eqb 0 (suc m))), rank-zero m, ap one (ne_eqb 0 (suc m) (λ e. omega arith)))

rank-among : (m a : ℕ) → 1 ≤ a → a ≤ m → add_up (each m (λ k. one (eqb a (suc k)))) ≡ 1
rank-among m zero h l = absurd (omega arith)
rank-among m (suc a) h l =
    ap add_up (each_same m (λ k. one (eqb (suc a) (suc k))) (λ k. one (eqb a k)) (λ k i. shift a k)) ∙ among m a (omega arith)

-- a result's rank is one of the sixteen exactly where its answer is 0
one_rank : (number rank : ℕ) → Fair number rank → add_up (each 16 (λ k. one (eqb rank (suc k)))) ≡ one (eqb number 0)
one_rank zero rank f = rank-among 16 rank (f.accepted refl).0 (f.accepted refl).1
one_rank (suc number) rank f =
    let z : rank ≡ 0 = f.refused (λ e. omega arith) in
    ap (λ (r : ℕ). add_up (each 16 (λ k. one (eqb r (suc k))))) z ∙ rank-zero 16 ∙ sym (ap one (ne_eqb (suc number) 0 (λ e. omega arith)))

answers-sum : (rs : List Single) → AllFair rs → add_up (each 11 (λ k. count_is k rs)) ≡ length rs
unfolding how_many
answers-sum [] a = add-zero 11
answers-sum (x ∷ rs) a =
    omega (arith, add-both 11 (λ k. one (eqb x.0 k)) (λ k. count_is k rs), among 11 x.0 (omega (arith, (fair-first x rs a).few)), answers-sum rs (fair-rest x rs a))

ranks-sum : (rs : List Single) → AllFair rs → add_up (each 16 (λ r. rank_is (suc r) rs)) ≡ count_is 0 rs
unfolding how_many
ranks-sum [] a = add-zero 16
ranks-sum (x ∷ rs) a =
    omega (arith, add-both 16 (λ r. one (eqb x.1 (suc r))) (λ r. rank_is (suc r) rs), one_rank x.0 x.1 (fair-first x rs a), ranks-sum rs (fair-rest x rs a))

-- The counts of the answers add up to the count of files.
pub answers-add-up : (rs : List Single) → AllFair rs → add_up (sheet_of rs).answers ≡ length rs
unfolding sheet_of
answers-add-up rs a = answers-sum rs a

-- The counts of the ranks add up to the count of answer 0.
pub ranks-add-up : (rs : List Single) → AllFair rs → add_up (sheet_of rs).ranks ≡ get_or (sheet_of rs).answers 0 0
unfolding sheet_of
ranks-add-up rs a = ranks-sum rs a ∙ sym (each_at 11 (λ k. count_is k rs) 0 (omega arith))

-- ---- the marks

-- The smallest rank is a file's, unless it is 0,
pub smallest-is-held : (rs : List Single) → 1 ≤ smallest rs → 1 ≤ rank_is (smallest rs) rs
smallest-is-held = smallest-held

-- and no file kept a smaller one.
pub smallest-is-least : (rs : List Single) (r : ℕ) → 1 ≤ r → 1 ≤ rank_is r rs → (1 ≤ smallest rs) × (smallest rs ≤ r)
smallest-is-least = smallest-least

-- The largest rank is a file's, unless it is 0,
pub largest-is-held : (rs : List Single) → 1 ≤ largest rs → 1 ≤ rank_is (largest rs) rs
largest-is-held = largest-held

-- and no file kept a larger one.
pub largest-is-most : (rs : List Single) (r : ℕ) → 1 ≤ rank_is r rs → r ≤ largest rs
largest-is-most = largest-most

-- the first file with a rank, where the first of the list has number i
record FirstAt (i r : ℕ) (rs : List Single) (n : ℕ) : Type 0 where
  pub from : i ≤ n
  pub there : n - i < length rs
  pub has : (get_or rs (n - i) (0, 0)).1 ≡ r
  pub none : (j : ℕ) → j < n - i → (get_or rs j (0, 0)).1 ≡ r → ⊥

first-at : (i r : ℕ) (rs : List Single) → 1 ≤ rank_is r rs → FirstAt i r rs (first_from i r rs)
unfolding how_many first_from
first-at i r [] h = absurd (omega arith)
first-at i r (x ∷ rs) h = by (first-at (suc i) r rs) (eqb x.1 r) refl
  where
    by : (1 ≤ rank_is r rs → FirstAt (suc i) r rs (first_from (suc i) r rs)) → (b : Bool) → eqb x.1 r ≡ b
        → FirstAt i r (x ∷ rs) (cond (eqb x.1 r) i (first_from (suc i) r rs))
    by again true t =
        let z : i - i ≡ 0 = omega arith in
        rw t (record { from = omega arith; there = omega arith; has = rw z (eqb-true x.1 r t); none = λ j l e. omega arith })
    by again false t =
        let f = again (omega (arith, ap one t)) in
        let n = first_from (suc i) r rs in
        let s : n - i ≡ suc (n - suc i) = omega (arith, f.from) in
        rw t
        (record {
          from = omega (arith, f.from);
          there = omega (arith, f.there);
          has = rw s f.has;
          none = before n s f (eqb-false x.1 r t);
        })
      where
        before : (n : ℕ) → n - i ≡ suc (n - suc i) → FirstAt (suc i) r rs n → (x.1 ≡ r → ⊥) → (j : ℕ) → j < n - i → (get_or (x ∷ rs) j (0, 0)).1 ≡ r → ⊥
        before n s f m zero l e = m e
        before n s f m (suc j) l e = f.none j (omega arith) e

with_at : (rs : List Single) (r : ℕ) → 1 ≤ r → 1 ≤ rank_is r rs → FirstAt 1 r rs (first_with r rs)
unfolding first_with
with_at rs zero l h = absurd (omega arith)
with_at rs (suc r) l h = first-at 1 (suc r) rs h

-- The first file with a rank is one of the files, counted from 1, and has it;
pub first-has : (rs : List Single) (r : ℕ) → 1 ≤ r → 1 ≤ rank_is r rs
    → (1 ≤ first_with r rs) × (first_with r rs ≤ length rs) × ((get_or rs (first_with r rs - 1) (0, 0)).1 ≡ r)
first-has rs r l h =
    let f = with_at rs r l h in
    (f.from, omega (arith, f.there), f.has)

-- no file before it has that rank.
pub first-no-earlier : (rs : List Single) (r : ℕ) → 1 ≤ r → 1 ≤ rank_is r rs → (j : ℕ) → j < first_with r rs - 1 → (get_or rs j (0, 0)).1 ≡ r → ⊥
first-no-earlier rs r l h = (with_at rs r l h).none
