-- One cut of the page: what it leaves at the front of each slice. Assumes nothing.
use mathlib.Core.Path.{◌≡◌, refl, sym, ap, ◌∙◌}
use mathlib.Core.List.{List, [], ◌∷◌, ◌++◌}
use Prim.Native.Nat.{ℕ, zero, suc, ◌+◌, ◌-◌, ◌*◌, ◌≤◌, ◌<◌, min}
use native.Mathlib.Omega.{arith}
use borrow.Rule.Slice.PartMut.{mid_of, put_mid, same_len_mid}
use lib.ListN.{length, take, drop, set, get_or, length-take, length-drop}
use lib.Seq.{take_all, take-append-add, take-append-le, length-take-le, get_or-take, get_or-append-add, take-suc-set}
use lib.Pow.{pow_pos}
use lib.Ieee.{Float, nan}
use Rattle.std.specs.Prelude.{Ok, Err}
use Rattle.answers.specs.declared.Refusal.{Refusal}
use Rattle.answers.specs.Paper.{Reply}
use Rattle.cut_values.specs.declared.CutCounted.{CutCounted}
use Rattle.profile_cut.specs.Cut.{room_at, values_at, reply_at, result_at, marks_of, marks_each, CutRoom, AloneAt}
use Rattle.profile_walk.specs.Page.{first_value, PutRoom, PutCut}
use Rattle.profile_walk.proofs.PageLaws.{values-few, values-some}

-- ---- the part of values from `at` on

pub tail-long : (at m : ℕ) (xs : List Float) → at + m ≤ length xs → m ≤ length (mid_of at (length xs - at) xs)
tail-long at m xs h =
    let l : length (drop at xs) ≤ length xs - at = omega (arith, length-drop at xs) in
    rw (take_all (length xs - at) (drop at xs) l) (omega (arith, length-drop at xs))

pub alone-room : (s : List Float) (n j cap at : ℕ) (values : List Float) {header largest ranks marks scratch : ℕ}
    → PutRoom s n j cap at header (length values) largest ranks marks scratch → CutRoom s n j cap (length (mid_of at (length values - at) values)) scratch
alone-room s n j cap at values p =
    record {
      sizes = p.sizes;
      small = p.small;
      inside = p.inside;
      state-is = p.state-is;
      allowed = p.allowed;
      out-fits = tail-long at (room_at n j) values p.values-fit;
      scratch-fits = p.scratch-fits;
    }

pub at-inside : (n j at values : ℕ) → at + room_at n j ≤ values → at < values
at-inside n j at values h = omega (arith, h, pow_pos (min (suc j) (n - suc j)))

-- what was put back there keeps the length
pub put-inside : (at : ℕ) (values ys : List Float) → at < length values → length ys ≡ length (mid_of at (length values - at) values)
    → at < length (put_mid at (length values - at) values ys)
put-inside at values ys h e = rw (same_len_mid at (length values - at) values ys e) h

front-values : (at : ℕ) (values ys kept : List Float) → at ≤ length values → take (length kept) ys ≡ kept
    → take (at + length kept) (put_mid at (length values - at) values ys) ≡ take at values ++ kept
front-values at values ys kept h e =
    let p = take at values in
    let l : length p ≡ at = length-take-le at values h in
    let q = ys ++ drop (length values - at) (drop at values) in
    let k : length kept ≤ length ys = omega (arith, ap length e, length-take (length kept) ys) in
    ap (λ (x : ℕ). take (x + length kept) (p ++ q)) (sym l)
    ∙ take-append-add p q (length kept)
    ∙ ap (λ (x : List Float). p ++ x) (take-append-le (length kept) ys (drop (length values - at) (drop at values)) k ∙ e)

front-first : (at : ℕ) (values now kept : List Float) → at ≤ length values → take (at + length kept) now ≡ take at values ++ kept → 0 < length kept
    → get_or now at nan ≡ first_value kept
front-first at values now kept h e some =
    let p = take at values in
    let l : length p + 0 ≡ at = omega (arith, length-take-le at values h) in
    sym (get_or-take (at + length kept) now at nan (omega (arith, some)))
    ∙ ap (λ (x : List Float). get_or x at nan) e
    ∙ ap (λ (x : ℕ). get_or (p ++ kept) x nan) (sym l)
    ∙ get_or-append-add p kept 0 nan

-- two numbers put one after another
put_two : (l : List ℕ) (k a b : ℕ) → k + 2 ≤ length l → take (k + 2) (set (set l k a) (k + 1) b) ≡ take k l ++ a ∷ b ∷ []
put_two [] k a b h = absurd (omega (arith, h))
put_two (x ∷ []) zero a b h = absurd (omega (arith, h))
put_two (x ∷ y ∷ l) zero a b h = refl
put_two (x ∷ l) (suc k) a b h =
    let e : suc k + 1 ≡ suc (k + 1) = omega arith in
    let f : suc k + 2 ≡ suc (k + 2) = omega arith in
    rw (e, f) (ap (λ (q : List ℕ). x ∷ q) (put_two l k a b (omega (arith, h))))

-- ---- the two ways out

-- a refused cut: nothing is said of the slices
pub put_refused : (s : List Float) (n j at : ℕ) (header : List ℕ) (values largest : List Float) (ranks marks : List ℕ) (e : Refusal) {ys values' : List Float}
    → AloneAt s n j (Err e) ys → PutCut s n j at header values largest ranks marks (Err e) header values' largest ranks marks
put_refused s n j at header values largest ranks marks e o = record { answer = o.answer; taken = tt }

count_of : (s : List Float) (n j : ℕ) (alone : CutCounted) {ys : List Float} → AloneAt s n j (Ok alone) ys → alone.count ≡ length (values_at s n j)
unfolding result_at
count_of s n j alone o = ap (λ (r : CutCounted). r.count) o.result

pub end-within : (s : List Float) (n j at values : ℕ) (alone : CutCounted) {ys : List Float} → AloneAt s n j (Ok alone) ys
    → at + room_at n j ≤ values → at + alone.count ≤ values
end-within s n j at values alone o fits = omega (arith, count_of s n j alone o, values-few s n j, fits)

module _ (s : List Float) (n j at : ℕ) (header : List ℕ) (values largest : List Float) (ranks marks : List ℕ) (alone : CutCounted) {ys : List Float}
    (o : AloneAt s n j (Ok alone) ys) (fits : at + room_at n j ≤ length values) where
  count-is : alone.count ≡ length (values_at s n j)
  count-is = count_of s n j alone o

  pub put-taken : {marks' : List ℕ} → 2 * j + 2 ≤ length header → j < length largest → j < length ranks
      → take (marks_each * suc j) marks' ≡ take (marks_each * j) marks ++ marks_of alone
      → PutCut s n j at header values largest ranks marks (Ok (at + alone.count))
      (set (set header (2 * j) alone.count) (2 * j + 1) at) (put_mid at (length values - at) values ys)
      (set largest j (get_or (put_mid at (length values - at) values ys) at nan)) (set ranks j alone.count) marks'
  put-taken hh hl hr m =
      let kept = values_at s n j in
      let values' = put_mid at (length values - at) values ys in
      let h : at ≤ length values = omega (arith, fits) in
      let two : 2 * suc j ≡ 2 * j + 2 = omega arith in
      let z : (reply_at s n j).0 ≡ 0 = ap (λ (x : Reply). x.0) (sym o.answer) in
      let front : take (at + length kept) values' ≡ take at values ++ kept = front-values at values ys kept h o.values in
      let first : get_or values' at nan ≡ first_value kept = front-first at values values' kept h front (values-some s n j z) in
      record {
        answer = o.answer;
        taken =
            record {
              at-is = ap (λ (x : ℕ). at + x) count-is;
              header_is =
                  ap (λ (x : ℕ). take x (set (set header (2 * j) alone.count) (2 * j + 1) at)) two
                  ∙ put_two header (2 * j) alone.count at hh
                  ∙ ap (λ (x : ℕ). take (2 * j) header ++ x ∷ at ∷ []) count-is;
              values-is = ap (λ (x : ℕ). take (at + x) values') count-is ∙ front;
              largest-is = take-suc-set largest j (get_or values' at nan) hl ∙ ap (λ (x : Float). take j largest ++ x ∷ []) first;
              ranks-is = take-suc-set ranks j alone.count hr ∙ ap (λ (x : ℕ). take j ranks ++ x ∷ []) count-is;
              marks-is = m ∙ ap (λ (x : CutCounted). take (marks_each * j) marks ++ marks_of x) o.result;
            };
      }
