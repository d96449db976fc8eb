-- The walk: what its cuts leave is what `cuts_to` says. Assumes nothing.
use mathlib.Core.Path.{◌≡◌, refl, sym, ap, ap₂, ◌∙◌}
use mathlib.Core.List.{List, [], ◌∷◌, ◌++◌}
use Prim.Native.Nat.{ℕ, zero, suc, ◌+◌, ◌-◌, ◌<◌}
use native.Mathlib.Numerals.{add-one}
use native.Mathlib.Omega.{arith}
use lib.ListN.{length, length-append}
use lib.Ieee.{Float}
use Rattle.std.specs.Prelude.{Result, Ok, Err}
use Rattle.answers.specs.declared.Refusal.{Refusal}
use Rattle.answers.specs.Paper.{Reply, paper, and_then}
use Rattle.answers.proofs.Stopped.{stopped-number}
use Rattle.answers.proofs.PaperLaws.{stays}
use Rattle.profile_cut.specs.Cut.{values_at, reply_at, result_at, marks_of}
use Rattle.profile_walk.specs.Page.{first_value, cuts_to, cuts_reply, PutRoom, PutCut, WalkRoom, Walking, WalkEnd}
use Rattle.profile_walk.proofs.PageLaws.{room_within, half-most, values-within}

pub walk_start : (s : List Float) (n : ℕ) (header : List ℕ) (values largest : List Float) (ranks marks : List ℕ) → Walking s n 0 0 header values largest ranks marks
unfolding cuts_to cuts_reply
walk_start s n header values largest ranks marks =
    record { at-is = refl; header_is = refl; values-is = refl; largest-is = refl; ranks-is = refl; marks-is = refl; reply-is = refl }

-- the slices keep their lengths
pub room-now : (s : List Float) (n cap : ℕ) {header values largest ranks marks scratch header' values' largest' ranks' marks' scratch' : ℕ}
    → WalkRoom s n cap header values largest ranks marks scratch
    → header' ≡ header → values' ≡ values → largest' ≡ largest → ranks' ≡ ranks → marks' ≡ marks → scratch' ≡ scratch
    → WalkRoom s n cap header' values' largest' ranks' marks' scratch'
room-now s n cap w a b c d e f = rw (a, b, c, d, e, f) w

-- a cut that is refused ends the page
reply-stays : (s : List Float) (n i d : ℕ) → ((cuts_reply s n i).0 ≡ 0 → ⊥) → cuts_reply s n i ≡ cuts_reply s n (d + i)
unfolding cuts_reply
reply-stays s n i zero b = let e : 0 + i ≡ i = omega arith in rw e
reply-stays s n i (suc d) b =
    let e : suc d + i ≡ suc (d + i) = omega arith in
    let h = reply-stays s n i d b in
    let m : (cuts_reply s n (d + i)).0 ≡ 0 → ⊥ = λ z. b (ap (λ (x : Reply). x.0) h ∙ z) in
    h ∙ stays (cuts_reply s n (d + i)) _ m ∙ ap (cuts_reply s n) (sym e)

module _ (s : List Float) (n j at : ℕ) (header : List ℕ) (values largest : List Float) (ranks marks : List ℕ) (h : suc j < n)
    (w : Walking s n j at header values largest ranks marks) where
  pub room-of-cut : {cap header' values' largest' ranks' marks' scratch : ℕ} → WalkRoom s n cap header' values' largest' ranks' marks' scratch
      → PutRoom s n j cap at header' values' largest' ranks' marks' scratch
  room-of-cut r =
      record {
        sizes = r.sizes;
        small = r.small;
        inside = h;
        state-is = r.state-is;
        allowed = r.allowed;
        values-fit = omega (arith, w.at-is, values-within s n j, room_within n j h, r.values-fit);
        scratch-fits = omega (arith, half-most n j h, r.scratch-fits);
        in-header = omega (arith, r.header-fits);
        in-largest = omega (arith, r.largest-fits);
        in-ranks = omega (arith, r.ranks-fit);
        in-marks = omega (arith, r.marks-fit);
      }

  answer-is : (r : Result ℕ Refusal) {header' : List ℕ} {values' largest' : List Float} {ranks' marks' : List ℕ}
      → PutCut s n j at header values largest ranks marks r header' values' largest' ranks' marks' → paper r ≡ cuts_reply s n (suc j)
  unfolding cuts_reply
  answer-is r t = t.answer ∙ sym (ap (λ (x : Reply). and_then x (reply_at s n j)) w.reply-is)

  walk_more : (next : ℕ) {header' : List ℕ} {values' largest' : List Float} {ranks' marks' : List ℕ}
      → PutCut s n j at header values largest ranks marks (Ok next) header' values' largest' ranks' marks' → Walking s n (suc j) next header' values' largest' ranks' marks'
  unfolding cuts_to
  walk_more next t =
      let p = cuts_to s n j in
      let k = t.taken in
      let kept = values_at s n j in
      record {
        at-is = k.at-is ∙ ap (λ (x : ℕ). x + length kept) w.at-is ∙ sym (length-append p.values kept);
        header_is = k.header_is ∙ ap₂ (λ (x : List ℕ) (y : ℕ). x ++ length kept ∷ y ∷ []) w.header_is w.at-is;
        values-is = k.values-is ∙ ap (λ (x : List Float). x ++ kept) w.values-is;
        largest-is = k.largest-is ∙ ap (λ (x : List Float). x ++ first_value kept ∷ []) w.largest-is;
        ranks-is = k.ranks-is ∙ ap (λ (x : List ℕ). x ++ length kept ∷ []) w.ranks-is;
        marks-is = k.marks-is ∙ ap (λ (x : List ℕ). x ++ marks_of (result_at s n j)) w.marks-is;
        reply-is = sym (answer-is (Ok next) t);
      }

  pub walk-next : (next : ℕ) {header' : List ℕ} {values' largest' : List Float} {ranks' marks' : List ℕ}
      → PutCut s n j at header values largest ranks marks (Ok next) header' values' largest' ranks' marks' → Walking s n (j + 1) next header' values' largest' ranks' marks'
  walk-next next t = rw add-one (walk_more next t)

  -- a refusal stays to the end
  pub walk_refused : (e : Refusal) {header' : List ℕ} {values' largest' : List Float} {ranks' marks' : List ℕ}
      → PutCut s n j at header values largest ranks marks (Err e) header' values' largest' ranks' marks' → WalkEnd s n (Err e) header' values' largest' ranks' marks'
  walk_refused e t =
      let a = answer-is (Err e) t in
      let m : (cuts_reply s n (suc j)).0 ≡ 0 → ⊥ = λ z. stopped-number e (ap (λ (x : Reply). x.0) a ∙ z) in
      let i : n - 1 - suc j + suc j ≡ n - 1 = omega arith in
      record { answer = a ∙ reply-stays s n (suc j) (n - 1 - suc j) m ∙ ap (cuts_reply s n) i; walked = tt }

-- every cut was answered 0
pub walk_end : (s : List Float) (n j at : ℕ) (header : List ℕ) (values largest : List Float) (ranks marks : List ℕ) → j ≡ n - 1
    → Walking s n j at header values largest ranks marks → WalkEnd s n (Ok at) header values largest ranks marks
walk_end s n j at header values largest ranks marks e w =
    let v = rw e at w in
    record { answer = sym v.reply-is; walked = v }
