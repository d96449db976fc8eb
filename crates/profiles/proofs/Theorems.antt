-- What a reader may want to know of the page of a chain's cuts. Assumes nothing.
use mathlib.Core.Path.{◌≡◌, refl, sym, ap, ap₂, ◌∙◌}
use mathlib.Core.Bool.{false}
use mathlib.Core.List.{List, [], ◌∷◌, ◌++◌, append_assoc}
use Prim.Native.Nat.{ℕ, zero, suc, ◌+◌, ◌-◌, ◌*◌, ◌<◌}
use native.Mathlib.Omega.{arith}
use borrow.Author.Tests.{lt-leb, ltb-false}
use lib.Dec.{eqb, ltb, leb}
use lib.ListN.{length, take, drop, get_or}
use lib.Seq.{get_or-take, take-append_seam}
use lib.Ieee.{Float, nan}
use Rattle.std.specs.Prelude.{Ok}
use Rattle.answers.specs.Paper.{Answer, Done, Reply, paper, refuse, after, and_then}
use Rattle.answers.proofs.PaperLaws.{refuse-done, and_then-done, end-new}
use Rattle.answers.proofs.Theorems.{paper-one}
use Rattle.complex.specs.Zeros.{zeros}
use Rattle.qubits.specs.Lists.{stands, places_from, subsystem}
use Rattle.cut_sides.specs.Sides.{cut_sizes, cut_refusal}
use Rattle.finish.specs.Finish.{padded}
use Rattle.cut_values.specs.declared.CutCounted.{CutCounted}
use Rattle.cut_values.specs.Schmidt.{singular_values, values_reply, cut_values_tests, cut_values_answer, Schmidt}
use Rattle.profile_cut.specs.Cut.{cut_list, values_at, reply_at, result_at, marks_of, marks_each, AloneAt}
use Rattle.profile_cut.proofs.CutLaws.{alone-is}
use Rattle.profile_walk.specs.Page.{first_value, cuts_to}
use Rattle.profile_walk.proofs.PageLaws.{values-some}
use Rattle.profile_checks.specs.Checks.{page_header, page_values, page_marks}
use Rattle.profiles.specs.Profile.{profile_of, CutProfile}
use Rattle.profiles.proofs.EntryLaws.{inner, inner-at, GoesOn, goes_on, page-long}

-- Only one outcome meets the contract of `cut_profile`: its answer, and every number of the six lent slices.
pub cut-profile-one : (s : List Float) (n cap : ℕ) (header : List ℕ) (values largest : List Float) (ranks marks : List ℕ) (scratch : List Float) (r q : Answer)
    (header' : List ℕ) (values' largest' : List Float) (ranks' marks' : List ℕ) (scratch' : List Float)
    (header'' : List ℕ) (values'' largest'' : List Float) (ranks'' marks'' : List ℕ) (scratch'' : List Float)
    → CutProfile s n cap header values largest ranks marks scratch r header' values' largest' ranks' marks' scratch'
    → CutProfile s n cap header values largest ranks marks scratch q header'' values'' largest'' ranks'' marks'' scratch''
    → (r ≡ q) × (header' ≡ header'') × (values' ≡ values'') × (largest' ≡ largest'') × (ranks' ≡ ranks'') × (marks' ≡ marks'') × (scratch' ≡ scratch'')
cut-profile-one s n cap header values largest ranks marks scratch r q header' values' largest' ranks' marks' scratch' header'' values'' largest'' ranks'' marks'' scratch'' x y =
    let e : r ≡ q = paper-one r q (x.answer ∙ sym y.answer) in (
      e,
      x.header_is ∙ rw e (sym y.header_is),
      x.values-is ∙ rw e (sym y.values-is),
      x.largest-is ∙ rw e (sym y.largest-is),
      x.ranks-is ∙ rw e (sym y.ranks-is),
      x.marks-is ∙ rw e (sym y.marks-is),
      x.scratch-is ∙ rw e (sym y.scratch-is),
    )

-- ---- which refusals there are before the lengths

first-pass : (n cap k : ℕ) → (cut_sizes n cap).0 ≡ k → after k (cut_sizes n cap) (subsystem n (0 ∷ [])) ≡ after k (cut_sizes n cap) (refuse (eqb 1 n) (5, 0) (0, 0))
unfolding places_from stands
first-pass n cap zero e =
    let a = refuse-done (ltb n 1) 0 0 _ e in
    let b = refuse-done (ltb 12 n) 0 0 _ a.1 in
    let c : leb n 0 ≡ false = lt-leb n 0 (omega (arith, ltb-false n 1 a.0)) in
    rw (a.0, b.0, c)
first-pass n cap (suc k) e = refl

-- Before the lengths a page is refused by 1, as a cut is, and by 5 where n is 1, and by nothing else: 2 to 4 do not occur.
pub one-or-five : (n cap : ℕ) → cut_refusal (0 ∷ []) n cap ≡ and_then (cut_sizes n cap) (refuse (eqb 1 n) (5, 0) (0, 0))
one-or-five n cap = first-pass n cap (cut_sizes n cap).0 refl

-- ---- an entry reads the same as the cut asked for alone

-- what stands at cut j of a page, beside what a call of that cut returned and left in its out
pub record StandsAt (j : ℕ) (header : List ℕ) (values largest : List Float) (ranks marks : List ℕ) (q : CutCounted) (out : List Float) : Type 0 where
  -- the header's count, and the rank beside it, are the call's count
  pub count : get_or header (2 * j) 0 ≡ q.count
  pub rank : get_or ranks j 0 ≡ q.count
  -- from the header's offset on stand the call's values, the largest of them first
  pub entry : take q.count (drop (get_or header (2 * j + 1) 0) values) ≡ take q.count out
  pub first : get_or largest j nan ≡ get_or out 0 nan
  -- the marks are the call's
  pub marked : take marks_each (drop (marks_each * j) marks) ≡ marks_of q

module _ (s : List Float) (n cap : ℕ) (header : List ℕ) (values largest : List Float) (ranks marks : List ℕ) (scratch : List Float) (r : Answer)
    (header' : List ℕ) (values' largest' : List Float) (ranks' marks' : List ℕ) (scratch' : List Float)
    (x : CutProfile s n cap header values largest ranks marks scratch r header' values' largest' ranks' marks' scratch') (done : r ≡ Done)
    (j : ℕ) (h : suc j < n) where
  number : (paper r).0 ≡ 0
  number = ap (λ (a : Answer). (paper a).0) done

  on : GoesOn (cuts_to s n (suc j)) (profile_of s n)
  on =
      let e : n - 1 - suc j + suc j ≡ n - 1 = omega arith in
      rw e at (goes_on s n (suc j) (n - 1 - suc j))

  -- each slice, cut j among the others
  header_at : header' ≡ (((cuts_to s n j).header ++ length (values_at s n j) ∷ length (cuts_to s n j).values ∷ []) ++ on.header) ++ drop (page_header n) header
  unfolding cuts_to
  header_at =
      x.header_is ∙ sym (end-new (paper r).0 ((profile_of s n).header ++ drop (page_header n) header) _ header number)
      ∙ ap (λ (l : List ℕ). l ++ drop (page_header n) header) on.header_is

  values-at : values' ≡ (((cuts_to s n j).values ++ values_at s n j) ++ on.values) ++ (zeros (page_values n - length (profile_of s n).values) ++ drop (page_values n) values)
  unfolding cuts_to padded
  values-at =
      let z = zeros (page_values n - length (profile_of s n).values) in
      let d = drop (page_values n) values in
      x.values-is ∙ sym (end-new (paper r).0 ((profile_of s n).values ++ z ++ d) _ values number)
      ∙ append_assoc (profile_of s n).values z d
      ∙ ap (λ (l : List Float). l ++ (z ++ d)) on.values-is

  largest-at : largest' ≡ (((cuts_to s n j).largest ++ first_value (values_at s n j) ∷ []) ++ on.largest) ++ drop (n - 1) largest
  unfolding cuts_to
  largest-at =
      x.largest-is ∙ sym (end-new (paper r).0 ((profile_of s n).largest ++ drop (n - 1) largest) _ largest number)
      ∙ ap (λ (l : List Float). l ++ drop (n - 1) largest) on.largest-is

  ranks-at : ranks' ≡ (((cuts_to s n j).ranks ++ length (values_at s n j) ∷ []) ++ on.ranks) ++ drop (n - 1) ranks
  unfolding cuts_to
  ranks-at =
      x.ranks-is ∙ sym (end-new (paper r).0 ((profile_of s n).ranks ++ drop (n - 1) ranks) _ ranks number)
      ∙ ap (λ (l : List ℕ). l ++ drop (n - 1) ranks) on.ranks-is

  marks-at : marks' ≡ (((cuts_to s n j).marks ++ marks_of (result_at s n j)) ++ on.marks) ++ drop (page_marks n) marks
  unfolding cuts_to
  marks-at =
      x.marks-is ∙ sym (end-new (paper r).0 ((profile_of s n).marks ++ drop (page_marks n) marks) _ marks number)
      ∙ ap (λ (l : List ℕ). l ++ drop (page_marks n) marks) on.marks-is

  -- What stands at cut j of an accepted page, its values from the offset on, its count, rank, largest value and marks, is what any outcome
  -- of `dense_schmidt_values` for the list 0..j says that answers 0, whatever its cap, its out and its scratch.
  pub entry-alone : (cap₂ : ℕ) (out work : List Float) (q : CutCounted) (out' work' : List Float) → Schmidt s n (cut_list j) cap₂ out work (Ok q) out' work'
      → StandsAt j header' values' largest' ranks' marks' q out'
  unfolding cut_values_answer result_at
  entry-alone cap₂ out work q out' work' y =
      let kept = values_at s n j in
      let long = page-long s n j in
      let t : (cut_values_answer s n (cut_list j) cap₂ (length out) (length work)).0 ≡ 0 = ap (λ (a : Reply). a.0) (sym y.answer) in
      let passed = (and_then-done (cut_values_tests s n (cut_list j) cap₂ (length out) (length work)) (values_reply (singular_values s n (cut_list j))) t).0 in
      let o : AloneAt s n j (Ok q) out' = alone-is s n j cap₂ out work (Ok q) passed y in
      let c : q.count ≡ length kept = ap (λ (k : CutCounted). k.count) o.result in
      let z : (reply_at s n j).0 ≡ 0 = ap (λ (a : Reply). a.0) (sym o.answer) in
      let zero_more : (k : ℕ) → k + 0 ≡ k = λ k. omega arith in
      let front = cuts_to s n j in
      let offset : get_or header' (2 * j + 1) 0 ≡ length front.values = ap (λ (l : List ℕ). get_or l (2 * j + 1) 0) header_at
      ∙ inner-at front.header (length kept ∷ length front.values ∷ []) on.header _ (2 * j) 1 0 long.header in
      let out-front : take q.count out' ≡ kept = ap (λ (k : ℕ). take k out') c ∙ o.values in
      record {
        count =
            ap₂ (λ (l : List ℕ) (k : ℕ). get_or l k 0) header_at (sym (zero_more (2 * j)))
            ∙ inner-at front.header (length kept ∷ length front.values ∷ []) on.header _ (2 * j) 0 0 long.header
            ∙ sym c;
        rank =
            ap₂ (λ (l : List ℕ) (k : ℕ). get_or l k 0) ranks-at (sym (zero_more j))
            ∙ inner-at front.ranks (length kept ∷ []) on.ranks _ j 0 0 long.ranks
            ∙ sym c;
        entry =
            ap₂ (λ (l : List Float) (k : ℕ). take q.count (drop k l)) values-at offset
            ∙ ap₂ (λ (l : List Float) (k : ℕ). take k l) (inner front.values kept on.values _ (length front.values) refl) c
            ∙ take-append_seam kept _
            ∙ sym out-front;
        first =
            ap₂ (λ (l : List Float) (k : ℕ). get_or l k nan) largest-at (sym (zero_more j))
            ∙ inner-at front.largest (first_value kept ∷ []) on.largest _ j 0 nan long.largest
            ∙ ap (λ (l : List Float). get_or l 0 nan) (sym o.values)
            ∙ get_or-take (length kept) out' 0 nan (values-some s n j z);
        marked =
            ap (λ (l : List ℕ). take marks_each (drop (marks_each * j) l)) marks-at
            ∙ ap (take marks_each) (inner front.marks (marks_of (result_at s n j)) on.marks _ (marks_each * j) long.marks)
            ∙ ap marks_of (sym o.result);
      }
