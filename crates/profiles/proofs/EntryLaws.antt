-- What stands at cut j of the page. Assumes nothing.
use mathlib.Core.Path.{◌≡◌, refl, sym, ap, ◌∙◌}
use mathlib.Core.List.{List, [], ◌∷◌, ◌++◌, append_assoc, append-nil}
use Prim.Native.Nat.{ℕ, zero, suc, ◌+◌, ◌*◌}
use native.Mathlib.Omega.{arith}
use lib.ListN.{length, drop, get_or, length-append}
use lib.Seq.{drop_at, get_or-drop}
use lib.Ieee.{Float}
use Rattle.profile_cut.specs.Cut.{values_at, result_at, marks_of, marks_each}
use Rattle.profile_walk.specs.Page.{Page, first_value, cuts_to}

-- ---- a part among others

pub inner : {A : Type 0} (front part more rest : List A) (k : ℕ) → length front ≡ k → drop k (((front ++ part) ++ more) ++ rest) ≡ part ++ (more ++ rest)
inner front part more rest k e =
    ap (drop k) (append_assoc (front ++ part) more rest ∙ append_assoc front part (more ++ rest)) ∙ drop_at front (part ++ (more ++ rest)) k e

pub inner-at : {A : Type 0} (front part more rest : List A) (k i : ℕ) (d : A) → length front ≡ k
    → get_or (((front ++ part) ++ more) ++ rest) (k + i) d ≡ get_or (part ++ (more ++ rest)) i d
inner-at {A} front part more rest k i d e =
    sym (get_or-drop k (((front ++ part) ++ more) ++ rest) i d) ∙ ap (λ (x : List A). get_or x i d) (inner front part more rest k e)

-- ---- the page goes on

-- q is p, and more in each list
pub record GoesOn (p q : Page) : Type 0 where
  pub header : List ℕ
  pub values : List Float
  pub largest : List Float
  pub ranks : List ℕ
  pub marks : List ℕ
  pub header_is : q.header ≡ p.header ++ header
  pub values-is : q.values ≡ p.values ++ values
  pub largest-is : q.largest ≡ p.largest ++ largest
  pub ranks-is : q.ranks ≡ p.ranks ++ ranks
  pub marks-is : q.marks ≡ p.marks ++ marks

grown : {A : Type 0} (p q more part : List A) → q ≡ p ++ more → q ++ part ≡ p ++ (more ++ part)
grown {A} p q more part e = ap (λ (x : List A). x ++ part) e ∙ append_assoc p more part

pub goes_on : (s : List Float) (n i d : ℕ) → GoesOn (cuts_to s n i) (cuts_to s n (d + i))
unfolding cuts_to
goes_on s n i zero =
    let e : 0 + i ≡ i = omega arith in
    let p = cuts_to s n i in
    rw e
    (record {
      header = [];
      values = [];
      largest = [];
      ranks = [];
      marks = [];
      header_is = sym (append-nil p.header);
      values-is = sym (append-nil p.values);
      largest-is = sym (append-nil p.largest);
      ranks-is = sym (append-nil p.ranks);
      marks-is = sym (append-nil p.marks);
    })
goes_on s n i (suc d) =
    let e : suc d + i ≡ suc (d + i) = omega arith in
    let p = cuts_to s n i in
    let q = cuts_to s n (d + i) in
    let g = goes_on s n i d in
    let kept = values_at s n (d + i) in
    rw e
    (record {
      header = g.header ++ length kept ∷ length q.values ∷ [];
      values = g.values ++ kept;
      largest = g.largest ++ first_value kept ∷ [];
      ranks = g.ranks ++ length kept ∷ [];
      marks = g.marks ++ marks_of (result_at s n (d + i));
      header_is = grown p.header q.header g.header (length kept ∷ length q.values ∷ []) g.header_is;
      values-is = grown p.values q.values g.values kept g.values-is;
      largest-is = grown p.largest q.largest g.largest (first_value kept ∷ []) g.largest-is;
      ranks-is = grown p.ranks q.ranks g.ranks (length kept ∷ []) g.ranks-is;
      marks-is = grown p.marks q.marks g.marks (marks_of (result_at s n (d + i))) g.marks-is;
    })

-- ---- how long its lists are

pub record Long (j : ℕ) (p : Page) : Type 0 where
  pub header : length p.header ≡ 2 * j
  pub largest : length p.largest ≡ j
  pub ranks : length p.ranks ≡ j
  pub marks : length p.marks ≡ marks_each * j

pub page-long : (s : List Float) (n j : ℕ) → Long j (cuts_to s n j)
unfolding cuts_to
page-long s n zero = record { header = refl; largest = refl; ranks = refl; marks = refl }
page-long s n (suc j) =
    let p = cuts_to s n j in
    let kept = values_at s n j in
    let g = page-long s n j in
    record {
      header = length-append p.header (length kept ∷ length p.values ∷ []) ∙ omega (arith, g.header);
      largest = length-append p.largest (first_value kept ∷ []) ∙ omega (arith, g.largest);
      ranks = length-append p.ranks (length kept ∷ []) ∙ omega (arith, g.ranks);
      marks = length-append p.marks (marks_of (result_at s n j)) ∙ omega (arith, g.marks);
    }
