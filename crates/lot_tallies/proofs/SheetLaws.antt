-- Laws of the whole sheet: no file, one more that is refused, one more that is accepted. Assumes nothing.
use mathlib.Core.Path.{◌≡◌, refl, sym, ap, subst, ◌∙◌}
use mathlib.Core.Logic.{⊎_elim}
use mathlib.Core.Bool.{Bool, true, false, cond}
use mathlib.Core.List.{List, [], ◌∷◌, ◌++◌}
use Prim.Native.Nat.{ℕ, zero, suc, ◌+◌, ◌-◌, ◌*◌, ◌≤◌, ◌<◌, max}
use native.Mathlib.Nat.{eq-or-lt_of_le, max-eq_left, max-eq_right, min-eq_left, min-eq_right}
use native.Mathlib.Omega.{arith}
use lib.Dec.{eqb, ltb}
use lib.ListN.{length, get_or, set, length-append, get_or-append}
use lib.Seq.{get_or_at}
use borrow.Author.Tests.{eq-eqb, ne_eqb, lt-ltb, le-ltb, eqb-true, eqb-false, ltb-true, ltb-false}
use Rattle.lot_tallies.specs.declared.Sheet.{Sheet}
use Rattle.lot_tallies.specs.declared.Mark.{Mark}
use Rattle.lot_tallies.specs.Tallies.{Single, Fair, AllFair, Tallied, count_is, rank_is, lesser, smallest, largest, first_with, rank_sum, each, sheet_of, smaller_mark, larger_mark}
use Rattle.lot_tallies.proofs.TallyLaws.{each_at, each_set, each_same, many-few, count-this, count-other, rank-this, rank-other, sum_more, smallest-more, largest-more, smallest-held, largest-held, smallest-least, largest-most, first-stays, first-new, first-passed, lesser-zero}

-- ---- all results are fair

pub fair-none : AllFair []
fair-none i h = absurd (omega arith)

pub fair-more : (rs : List Single) (number rank : ℕ) → AllFair rs → Fair number rank → AllFair (rs ++ (number, rank) ∷ [])
fair-more rs number rank a f i h =
    ⊎_elim
    (λ (e : i ≡ length rs). subst (λ (x : Single). Fair x.0 x.1) (sym (get_or_at rs (number, rank) [] (0, 0) i (sym e))) f)
    (λ (e : i < length rs). subst (λ (x : Single). Fair x.0 x.1) (sym (get_or-append rs ((number, rank) ∷ []) (0, 0) i e)) (a i e))
    (eq-or-lt_of_le (omega (arith, length-append rs ((number, rank) ∷ []))))

pub fair-first : (x : Single) (rs : List Single) → AllFair (x ∷ rs) → Fair x.0 x.1
fair-first x rs a = a 0 (omega arith)

pub fair-rest : (x : Single) (rs : List Single) → AllFair (x ∷ rs) → AllFair rs
fair-rest x rs a i h = a (suc i) (omega arith)

pub fair-small : (number rank : ℕ) → Fair number rank → rank ≤ 16
fair-small zero rank f = (f.accepted refl).1
fair-small (suc number) rank f = omega (arith, f.refused (λ e. omega arith))

pub sum-few : (rs : List Single) → AllFair rs → rank_sum rs ≤ 16 * length rs
unfolding rank_sum
sum-few [] a = omega arith
sum-few (x ∷ rs) a = omega (arith, sum-few rs (fair-rest x rs a), fair-small x.0 x.1 (fair-first x rs a))

-- ---- what a sheet holds

answers-are : (rs : List Single) → (sheet_of rs).answers ≡ each 11 (λ k. count_is k rs)
unfolding sheet_of
answers-are rs = refl

ranks-are : (rs : List Single) → (sheet_of rs).ranks ≡ each 16 (λ r. rank_is (suc r) rs)
unfolding sheet_of
ranks-are rs = refl

sum_is : (rs : List Single) → (sheet_of rs).sum ≡ rank_sum rs
unfolding sheet_of
sum_is rs = refl

module _ (sheet : Sheet) (files : ℕ) (t : Tallied sheet files) where
  pub answer-few : (k : ℕ) → k < 11 → get_or sheet.answers k 0 ≤ files
  answer-few k h =
      let e : get_or sheet.answers k 0 ≡ count_is k t.results
      = ap (λ (s : Sheet). get_or s.answers k 0) t.sheet-is ∙ ap (λ (l : List ℕ). get_or l k 0) (answers-are t.results) ∙ each_at 11 (λ k. count_is k t.results) k h in
      omega (arith, e, many-few (λ x. eqb x.0 k) t.results, t.count)

  pub rank-few : (r : ℕ) → r < 16 → get_or sheet.ranks r 0 ≤ files
  rank-few r h =
      let e : get_or sheet.ranks r 0 ≡ rank_is (suc r) t.results
      = ap (λ (s : Sheet). get_or s.ranks r 0) t.sheet-is ∙ ap (λ (l : List ℕ). get_or l r 0) (ranks-are t.results) ∙ each_at 16 (λ r. rank_is (suc r) t.results) r h in
      omega (arith, e, many-few (λ x. eqb x.1 (suc r)) t.results, t.count)

  pub sum-light : sheet.sum ≤ 16 * files
  sum-light = omega (arith, ap (λ (s : Sheet). s.sum) t.sheet-is, sum_is t.results, sum-few t.results t.fair, t.count)

-- ---- the marks

not_none : (a : ℕ) → (a ≡ 0 → ⊥) → 1 ≤ a
not_none zero n = absurd (n refl)
not_none (suc a) n = omega arith

lesser-less : (a b : ℕ) → 1 ≤ b → b < a → lesser a b ≡ b
lesser-less zero b h l = absurd (omega arith)
lesser-less (suc a) zero h l = absurd (omega arith)
lesser-less (suc a) (suc b) h l = min-eq_right (omega arith)

lesser-more : (a b : ℕ) → 1 ≤ a → a ≤ b → lesser a b ≡ a
lesser-more zero b h l = absurd (omega arith)
lesser-more (suc a) zero h l = absurd (omega arith)
lesser-more (suc a) (suc b) h l = min-eq_left l

module _ (rs : List Single) (number rank : ℕ) where
  -- a refused file leaves them
  smallest-passed : rank ≡ 0 → smallest (rs ++ (number, rank) ∷ []) ≡ smallest rs
  smallest-passed e = smallest-more rs (number, rank) ∙ ap (lesser (smallest rs)) e ∙ lesser-zero (smallest rs)

  largest-passed : rank ≡ 0 → largest (rs ++ (number, rank) ∷ []) ≡ largest rs
  largest-passed e = largest-more rs (number, rank) ∙ ap (max (largest rs)) e ∙ max-eq_left (omega arith)

  with-passed : (r : ℕ) → rank ≡ 0 → first_with r (rs ++ (number, rank) ∷ []) ≡ first_with r rs
  unfolding first_with
  with-passed zero e = refl
  with-passed (suc r) e = first-passed 1 (suc r) rs (number, rank) (λ f. omega arith)

  module _ (h : 1 ≤ rank) where
    with-new : rank_is rank rs ≡ 0 → first_with rank (rs ++ (number, rank) ∷ []) ≡ length rs + 1
    unfolding first_with
    with-new e = by rank refl h e
      where
        by : (r : ℕ) → rank ≡ r → 1 ≤ r → rank_is r rs ≡ 0 → first_with r (rs ++ (number, rank) ∷ []) ≡ length rs + 1
        by zero s l n = absurd (omega arith)
        by (suc r) s l n = first-new 1 (suc r) rs (number, rank) n s ∙ omega arith

    with-stays : (r : ℕ) → 1 ≤ r → 1 ≤ rank_is r rs → first_with r (rs ++ (number, rank) ∷ []) ≡ first_with r rs
    unfolding first_with
    with-stays zero l n = absurd (omega arith)
    with-stays (suc r) l n = first-stays 1 (suc r) rs (number, rank) n

    -- an accepted file whose rank is smaller, is the first, or is larger: no file before had it
    new-small : rank < smallest rs → rank_is rank rs ≡ 0
    new-small l = by (rank_is rank rs) refl
      where
        by : (k : ℕ) → rank_is rank rs ≡ k → k ≡ 0
        by zero e = refl
        by (suc k) e = absurd (omega (arith, (smallest-least rs rank h (omega arith)).1))

    new-first : smallest rs ≡ 0 → rank_is rank rs ≡ 0
    new-first n = by (rank_is rank rs) refl
      where
        by : (k : ℕ) → rank_is rank rs ≡ k → k ≡ 0
        by zero e = refl
        by (suc k) e = absurd (omega (arith, (smallest-least rs rank h (omega arith)).0))

    new-large : largest rs < rank → rank_is rank rs ≡ 0
    new-large l = by (rank_is rank rs) refl
      where
        by : (k : ℕ) → rank_is rank rs ≡ k → k ≡ 0
        by zero e = refl
        by (suc k) e = absurd (omega (arith, largest-most rs rank (omega arith)))

    -- the mark of the smallest rank, of one more file
    taken-small : lesser (smallest rs) rank ≡ rank → rank_is rank rs ≡ 0 → ◌≡◌ {A = Mark} (record { rank = rank; file = length rs + 1 })
        (record { rank = smallest (rs ++ (number, rank) ∷ []); file = first_with (smallest (rs ++ (number, rank) ∷ [])) (rs ++ (number, rank) ∷ []) })
    taken-small e n =
        let s : smallest (rs ++ (number, rank) ∷ []) ≡ rank = smallest-more rs (number, rank) ∙ e in
        rw (s, with-new n) refl

    kept_small : lesser (smallest rs) rank ≡ smallest rs → 1 ≤ smallest rs → ◌≡◌ {A = Mark} (record { rank = smallest rs; file = first_with (smallest rs) rs })
        (record { rank = smallest (rs ++ (number, rank) ∷ []); file = first_with (smallest (rs ++ (number, rank) ∷ [])) (rs ++ (number, rank) ∷ []) })
    kept_small e n =
        let s : smallest (rs ++ (number, rank) ∷ []) ≡ smallest rs = smallest-more rs (number, rank) ∙ e in
        rw (s, with-stays (smallest rs) n (smallest-held rs n)) refl

    smaller-is : smaller_mark (smallest rs) (first_with (smallest rs) rs) rank (length rs + 1)
        ≡ record { rank = smallest (rs ++ (number, rank) ∷ []); file = first_with (smallest (rs ++ (number, rank) ∷ [])) (rs ++ (number, rank) ∷ []) }
    unfolding smaller_mark
    smaller-is = by (eqb (smallest rs) 0) refl
      where
        M : Mark
        M = record { rank = smallest (rs ++ (number, rank) ∷ []); file = first_with (smallest (rs ++ (number, rank) ∷ [])) (rs ++ (number, rank) ∷ []) }

        below : (b : Bool) → (smallest rs ≡ 0 → ⊥) → ltb rank (smallest rs) ≡ b
            → cond b (record { rank = rank; file = length rs + 1 }) (record { rank = smallest rs; file = first_with (smallest rs) rs }) ≡ M
        below true n t = taken-small (lesser-less (smallest rs) rank h (ltb-true rank (smallest rs) t)) (new-small (ltb-true rank (smallest rs) t))
        below false n t = kept_small (lesser-more (smallest rs) rank (not_none (smallest rs) n) (ltb-false rank (smallest rs) t)) (not_none (smallest rs) n)

        by : (b : Bool) → eqb (smallest rs) 0 ≡ b
            → cond b (record { rank = rank; file = length rs + 1 })
            (cond (ltb rank (smallest rs)) (record { rank = rank; file = length rs + 1 }) (record { rank = smallest rs; file = first_with (smallest rs) rs })) ≡ M
        by true t = taken-small (ap (λ (s : ℕ). lesser s rank) (eqb-true (smallest rs) 0 t)) (new-first (eqb-true (smallest rs) 0 t))
        by false t = below (ltb rank (smallest rs)) (eqb-false (smallest rs) 0 t) refl

    larger-is : larger_mark (largest rs) (first_with (largest rs) rs) rank (length rs + 1)
        ≡ record { rank = largest (rs ++ (number, rank) ∷ []); file = first_with (largest (rs ++ (number, rank) ∷ [])) (rs ++ (number, rank) ∷ []) }
    unfolding larger_mark
    larger-is = by (ltb (largest rs) rank) refl
      where
        M : Mark
        M = record { rank = largest (rs ++ (number, rank) ∷ []); file = first_with (largest (rs ++ (number, rank) ∷ [])) (rs ++ (number, rank) ∷ []) }

        by : (b : Bool) → ltb (largest rs) rank ≡ b → cond b (record { rank = rank; file = length rs + 1 }) (record { rank = largest rs; file = first_with (largest rs) rs }) ≡ M
        by true t =
            let l = ltb-true (largest rs) rank t in
            let s : largest (rs ++ (number, rank) ∷ []) ≡ rank = largest-more rs (number, rank) ∙ max-eq_right (omega arith) in
            rw (s, with-new (new-large l)) refl
        by false t =
            let l = ltb-false (largest rs) rank t in
            let s : largest (rs ++ (number, rank) ∷ []) ≡ largest rs = largest-more rs (number, rank) ∙ max-eq_left l in
            rw (s, with-stays (largest rs) (omega arith) (largest-held rs (omega arith))) refl

-- ---- what the code tests

pub held_none : (held first rank file : ℕ) → held ≡ 0 → record { rank = rank; file = file } ≡ smaller_mark held first rank file
unfolding smaller_mark
held_none held first rank file e = rw (eq-eqb held 0 e) refl

pub held_more : (held first rank file : ℕ) → (held ≡ 0 → ⊥) → rank < held → record { rank = rank; file = file } ≡ smaller_mark held first rank file
unfolding smaller_mark
held_more held first rank file n l = rw (ne_eqb held 0 n, lt-ltb rank held l) refl

-- ---- the whole sheet

same-sheet : {a a' b b' : List ℕ} {c c' d d' e e' f f' g g' : ℕ} → a ≡ a' → b ≡ b' → c ≡ c' → d ≡ d' → e ≡ e' → f ≡ f' → g ≡ g'
    → ◌≡◌ {A = Sheet} (record { answers = a; ranks = b; smallest = c; smallest_file = d; largest = e; largest_file = f; sum = g })
    (record { answers = a'; ranks = b'; smallest = c'; smallest_file = d'; largest = e'; largest_file = f'; sum = g' })
same-sheet p q r s t u v = cc

-- the sheet with one of its two rows raised at a place
abbrev pub raised : List ℕ → ℕ → List ℕ
raised l k = set l k (get_or l k 0 + 1)

answers-more : (rs : List Single) (number rank : ℕ) → number < 11
    → raised (each 11 (λ k. count_is k rs)) number ≡ each 11 (λ k. count_is k (rs ++ (number, rank) ∷ []))
answers-more rs number rank h =
    each_set 11 (λ k. count_is k rs) (λ k. count_is k (rs ++ (number, rank) ∷ [])) number _ h
    (ap (λ (n : ℕ). n + 1) (each_at 11 (λ k. count_is k rs) number h) ∙ count-this rs number rank) (λ k n. count-other rs number rank k n)

ranks-more : (rs : List Single) (number r : ℕ) → r < 16
    → raised (each 16 (λ r. rank_is (suc r) rs)) r ≡ each 16 (λ k. rank_is (suc k) (rs ++ (number, suc r) ∷ []))
ranks-more rs number r h =
    each_set 16 (λ r. rank_is (suc r) rs) (λ k. rank_is (suc k) (rs ++ (number, suc r) ∷ [])) r _ h
    (ap (λ (n : ℕ). n + 1) (each_at 16 (λ r. rank_is (suc r) rs) r h) ∙ rank-this rs number (suc r)) (λ k n. rank-other rs number (suc r) (suc k) (λ e. n (omega arith)))

ranks-passed : (rs : List Single) (number rank : ℕ) → rank ≡ 0 → each 16 (λ r. rank_is (suc r) rs) ≡ each 16 (λ k. rank_is (suc k) (rs ++ (number, rank) ∷ []))
ranks-passed rs number rank e =
    each_same 16 (λ r. rank_is (suc r) rs) (λ k. rank_is (suc k) (rs ++ (number, rank) ∷ [])) (λ k h. rank-other rs number rank (suc k) (λ f. omega arith))

-- no file
pub sheet-none : sheet_of [] ≡ record {
  answers = 0 ∷ 0 ∷ 0 ∷ 0 ∷ 0 ∷ 0 ∷ 0 ∷ 0 ∷ 0 ∷ 0 ∷ 0 ∷ [];
  ranks = 0 ∷ 0 ∷ 0 ∷ 0 ∷ 0 ∷ 0 ∷ 0 ∷ 0 ∷ 0 ∷ 0 ∷ 0 ∷ 0 ∷ 0 ∷ 0 ∷ 0 ∷ 0 ∷ [];
  smallest = 0;
  smallest_file = 0;
  largest = 0;
  largest_file = 0;
  sum = 0;
}
unfolding sheet_of
sheet-none = refl

module _ (sheet : Sheet) (files number rank : ℕ) (f : Fair number rank) (rs : List Single) (is : sheet ≡ sheet_of rs) (count : length rs ≡ files) where
  -- one more file that is refused
  pub refused-more : (number ≡ 0 → ⊥) → record {
    answers = raised sheet.answers number;
    ranks = sheet.ranks;
    smallest = sheet.smallest;
    smallest_file = sheet.smallest_file;
    largest = sheet.largest;
    largest_file = sheet.largest_file;
    sum = sheet.sum;
  } ≡ sheet_of (rs ++ (number, rank) ∷ [])
  unfolding sheet_of
  refused-more n =
      let z : rank ≡ 0 = f.refused n in
      let s = smallest-passed rs number rank z in
      let l = largest-passed rs number rank z in
      same-sheet
      (ap (λ (s : Sheet). raised s.answers number) is ∙ answers-more rs number rank (omega (arith, f.few)))
      (ap (λ (s : Sheet). s.ranks) is ∙ ranks-passed rs number rank z)
      (ap (λ (s : Sheet). s.smallest) is ∙ sym s)
      (ap (λ (s : Sheet). s.smallest_file) is ∙ sym (with-passed rs number rank (smallest rs) z) ∙ ap (λ (r : ℕ). first_with r (rs ++ (number, rank) ∷ [])) (sym s))
      (ap (λ (s : Sheet). s.largest) is ∙ sym l)
      (ap (λ (s : Sheet). s.largest_file) is ∙ sym (with-passed rs number rank (largest rs) z) ∙ ap (λ (r : ℕ). first_with r (rs ++ (number, rank) ∷ [])) (sym l))
      (ap (λ (s : Sheet). s.sum) is ∙ omega (arith, sum_more rs (number, rank)))

  -- one more that is accepted
  pub accepted-more : number ≡ 0 → (least most : Mark) → least ≡ smaller_mark sheet.smallest sheet.smallest_file rank (files + 1)
      → most ≡ larger_mark sheet.largest sheet.largest_file rank (files + 1) → record {
        answers = raised sheet.answers number;
        ranks = raised sheet.ranks (rank - 1);
        smallest = least.rank;
        smallest_file = least.file;
        largest = most.rank;
        largest_file = most.file;
        sum = sheet.sum + rank;
      } ≡ sheet_of (rs ++ (number, rank) ∷ [])
  unfolding sheet_of
  accepted-more n least most p q =
      let h = f.accepted n in
      let back : suc (rank - 1) ≡ rank = omega (arith, h.0) in
      let s = p
      ∙ ap (λ (x : Sheet). smaller_mark x.smallest x.smallest_file rank (files + 1)) is
      ∙ ap (λ (x : ℕ). smaller_mark (smallest rs) (first_with (smallest rs) rs) rank (x + 1)) (sym count)
      ∙ smaller-is rs number rank h.0 in
      let l = q
      ∙ ap (λ (x : Sheet). larger_mark x.largest x.largest_file rank (files + 1)) is
      ∙ ap (λ (x : ℕ). larger_mark (largest rs) (first_with (largest rs) rs) rank (x + 1)) (sym count)
      ∙ larger-is rs number rank h.0 in
      same-sheet
      (ap (λ (s : Sheet). raised s.answers number) is ∙ answers-more rs number rank (omega (arith, f.few)))
      (ap (λ (s : Sheet). raised s.ranks (rank - 1)) is
      ∙ ranks-more rs number (rank - 1) (omega (arith, h.0, h.1))
      ∙ ap (λ (r : ℕ). each 16 (λ k. rank_is (suc k) (rs ++ (number, r) ∷ []))) back)
      (ap (λ (m : Mark). m.rank) s)
      (ap (λ (m : Mark). m.file) s)
      (ap (λ (m : Mark). m.rank) l)
      (ap (λ (m : Mark). m.file) l)
      (ap (λ (s : Sheet). s.sum + rank) is ∙ omega (arith, sum_more rs (number, rank)))
