-- The call from its parts: its work at each way out, an accepted call and a refused one. Assumes nothing.
use mathlib.Core.Path.{◌≡◌, refl, sym, ap, ◌∙◌}
use mathlib.Core.List.{List, [], ◌++◌, append-nil}
use mathlib.Core.Logic.{inl}
use Prim.Native.Nat.{ℕ, zero, suc, ◌+◌, ◌-◌, ◌*◌, ◌/◌, ◌^◌, ◌≤◌, ◌<◌}
use native.Mathlib.Omega.{arith}
use borrow.Rule.Slice.PartMut.{mid_of, put_mid}
use lib.ListN.{length, take, drop, replicate, length-take, length-drop, drop_of_length-le}
use lib.Seq.{take_all}
use lib.Ieee.{Float}
use Rattle.std.specs.Prelude.{Ok, Err}
use Rattle.answers.specs.declared.Refusal.{Refusal}
use Rattle.answers.specs.Paper.{Answer, Done, Reply, paper, table, after, and_then, if_done, at_end}
use Rattle.answers.proofs.Stopped.{refused, stopped-number}
use Rattle.answers.proofs.PaperLaws.{done-old, worked-new, worked-old, end-old, Ended, nine-ended}
use Rattle.complex.specs.Zeros.{zeros, zeroed}
use Rattle.values.specs.Lists.{all_finite}
use Rattle.values.specs.Sort.{sorted_down}
use Rattle.finish.specs.Finish.{finish_reply, padded}
use Rattle.finish.proofs.OutcomeLaws.{reply-worked}
use Rattle.svd.proofs.SvdLaws.{zeroed-all}
use Rattle.cut_values.specs.Schmidt.{singular_values, values_reply}
use Rattle.profile_cut.specs.Cut.{cut_list, reply_at, marks_each}
use Rattle.profile_walk.specs.Page.{cuts_reply, cuts_room, WalkRoom, WalkEnd}
use Rattle.profile_checks.specs.Checks.{page_header, page_values, page_marks, page_scratch, profile_tests}
use Rattle.profile_checks.proofs.CheckLaws.{tests-small}
use Rattle.profiles.specs.Profile.{profile_of, profile_reply, CutProfile, WorkRoom, ProfileWorked}

-- ---- the work

-- a list of the needed length that was zeroed
cleared : (l : List Float) (m : ℕ) {l' : List Float} → length l ≡ m → l' ≡ zeroed (length l) l → l' ≡ zeros m
cleared l m e h = h ∙ zeroed-all l ∙ ap zeros e

-- the values, and +0.0 past them
values-filled : (values kept : List Float) (at m left : ℕ) {ys : List Float} → take at values ≡ kept → at ≡ length kept → length values ≡ m → left ≡ length values - at
    → ys ≡ zeroed left (mid_of at (length values - at) values) → put_mid at (length values - at) values ys ≡ kept ++ zeros (m - length kept)
unfolding zeroed
values-filled values kept at m left {ys} e a l f h =
    let d : length (drop at values) ≤ length values - at = omega (arith, length-drop at values) in
    let mid : take (length values - at) (drop at values) ≡ drop at values = take_all (length values - at) (drop at values) d in
    let post : drop (length values - at) (drop at values) ≡ [] = drop_of_length-le (drop at values) d in
    let g : length (drop at values) ≤ left = omega (arith, length-drop at values, f) in
    let none : drop left (drop at values) ≡ [] = drop_of_length-le (drop at values) g in
    let y : ys ≡ zeros left = h ∙ ap (λ (x : List Float). zeros left ++ drop left x) mid ∙ ap (λ (x : List Float). zeros left ++ x) none ∙ append-nil (zeros left) in
    let k : left ≡ m - length kept = omega (arith, a, l, f) in
    ap (λ (x : List Float). take at values ++ (ys ++ x)) post
    ∙ ap (λ (x : List Float). take at values ++ x) (append-nil ys ∙ y ∙ ap zeros k)
    ∙ ap (λ (x : List Float). x ++ zeros (m - length kept)) e

-- the walk leaves a list of exactly the needed length
whole : {A : Type 0} (l page : List A) (m : ℕ) → length l ≡ m → take m l ≡ page → l ≡ page
whole l page m e h = sym (take_all m l (omega (arith, e))) ∙ h

-- the values packed so far lie within the slice
pub walked-within : (s : List Float) (n at : ℕ) (header : List ℕ) (values largest : List Float) (ranks marks : List ℕ)
    → WalkEnd s n (Ok at) header values largest ranks marks → at ≤ length values
walked-within s n at header values largest ranks marks w =
    let k = w.walked in
    omega (arith, k.at-is, ap length k.values-is, length-take at values)

-- over slices of exactly the needed lengths
pub work-room : (s : List Float) (n cap : ℕ) {header values largest ranks marks scratch header' values' largest' ranks' marks' scratch' : ℕ}
    → WalkRoom s n cap header values largest ranks marks scratch → header' ≡ page_header n → values' ≡ page_values n → largest' ≡ n - 1 → ranks' ≡ n - 1
    → marks' ≡ page_marks n → scratch' ≡ page_scratch n → WorkRoom s n cap header' values' largest' ranks' marks' scratch'
work-room s n cap w a b c d e f =
    record {
      room =
          record {
            sizes = w.sizes;
            some = w.some;
            small = w.small;
            state-is = w.state-is;
            allowed = w.allowed;
            header-fits = omega (arith, a);
            values-fit = omega (arith, b);
            largest-fits = omega (arith, c);
            ranks-fit = omega (arith, d);
            marks-fit = omega (arith, e);
            scratch-fits = omega (arith, f);
          };
      header_is = a;
      values-is = b;
      largest-is = c;
      ranks-is = d;
      marks-is = e;
      scratch-is = f;
    }

module _ (s : List Float) (n : ℕ) (header : List ℕ) (values largest : List Float) (ranks marks : List ℕ) (scratch : List Float) {scratch' : List Float}
    (lh : length header ≡ page_header n) (lv : length values ≡ page_values n) (ll : length largest ≡ n - 1) (lr : length ranks ≡ n - 1) (lm : length marks ≡ page_marks n)
    (ls : length scratch ≡ page_scratch n) (z : scratch' ≡ zeroed (length scratch) scratch) where
  pub work-done : (at left : ℕ) {ys : List Float} → WalkEnd s n (Ok at) header values largest ranks marks → left ≡ length values - at
      → ys ≡ zeroed left (mid_of at (length values - at) values)
      → ProfileWorked s n Done header (put_mid at (length values - at) values ys) largest ranks marks scratch'
  work-done at left w f h =
      let k = w.walked in
      record {
        answer = w.answer;
        header_is = whole header (profile_of s n).header (page_header n) lh k.header_is;
        values-is = values-filled values (profile_of s n).values at (page_values n) left k.values-is k.at-is lv f h;
        largest-is = whole largest (profile_of s n).largest (n - 1) ll k.largest-is;
        ranks-is = whole ranks (profile_of s n).ranks (n - 1) lr k.ranks-is;
        marks-is = whole marks (profile_of s n).marks (page_marks n) lm k.marks-is;
        scratch-is = cleared scratch (page_scratch n) ls z;
      }

  pub work-stopped : (e : Refusal) {header' : List ℕ} {values' largest' : List Float} {ranks' marks' : List ℕ} → WalkEnd s n (Err e) header values largest ranks marks
      → (header' ≡ replicate (length header) 0) × (values' ≡ zeros (length values)) × (largest' ≡ zeros (length largest))
      × (ranks' ≡ replicate (length ranks) 0) × (marks' ≡ replicate (length marks) 0)
      → ProfileWorked s n (Err e) header' values' largest' ranks' marks' scratch'
  work-stopped e w y =
      let x = (table e).0 in
      let b = stopped-number e in
      record {
        answer = w.answer;
        header_is = y.0 ∙ ap (λ (m : ℕ). replicate m 0) lh ∙ done-old x (profile_of s n).header _ b;
        values-is = y.1 ∙ ap zeros lv ∙ done-old x ((profile_of s n).values ++ zeros (page_values n - length (profile_of s n).values)) _ b;
        largest-is = y.2 ∙ ap zeros ll ∙ done-old x (profile_of s n).largest _ b;
        ranks-is = y.3 ∙ ap (λ (m : ℕ). replicate m 0) lr ∙ done-old x (profile_of s n).ranks _ b;
        marks-is = y.4 ∙ ap (λ (m : ℕ). replicate m 0) lm ∙ done-old x (profile_of s n).marks _ b;
        scratch-is = cleared scratch (page_scratch n) ls z;
      }

-- ---- the work's answer is 0, 8 or 9

after-ended : (k : ℕ) (x b : Reply) → Ended x.0 → Ended b.0 → Ended (after k x b).0
after-ended zero x b h i = i
after-ended (suc k) x b h i = h

at_ended : (s : List Float) (n j : ℕ) → Ended (reply_at s n j).0
unfolding reply_at values_reply
at_ended s n j =
    let v = singular_values s n (cut_list j) in
    nine-ended (all_finite v) (finish_reply v) (reply-worked (sorted_down v))

cuts-ended : (s : List Float) (n j : ℕ) → Ended (cuts_reply s n j).0
unfolding cuts_reply
cuts-ended s n zero = inl refl
cuts-ended s n (suc j) = after-ended (cuts_reply s n j).0 (cuts_reply s n j) (reply_at s n j) (cuts-ended s n j) (at_ended s n j)

-- ---- an accepted call, and a refused one

join-end : {A : Type 0} (x : ℕ) (new cleared rest old : List A) → Ended x → if_done x new cleared ++ rest ≡ at_end x (new ++ rest) (cleared ++ rest) old
join-end zero new cleared rest old h = refl
join-end (suc x) new cleared rest old h = worked-new (suc x) (cleared ++ rest) old h

pub profile-worked : (s : List Float) (n cap : ℕ) (header : List ℕ) (values largest : List Float) (ranks marks : List ℕ) (scratch : List Float) (r : Answer)
    {header' : List ℕ} {values' largest' : List Float} {ranks' marks' : List ℕ} {scratch' : List Float} {cells side most : ℕ}
    → cells ≡ 2 ^ n → side ≡ 2 ^ (n / 2) → most ≡ cuts_room n (n - 1)
    → and_then (profile_tests s n cap (length header) (length values) (length largest) (length ranks) (length marks) (length scratch)) (cuts_reply s n (n - 1)) ≡ cuts_reply s n (n - 1)
    → ProfileWorked s n r header' values' largest' ranks' marks' scratch'
    → CutProfile s n cap header values largest ranks marks scratch r
    (header' ++ drop (2 * (n - 1)) header) (values' ++ drop most values) (largest' ++ drop (n - 1) largest) (ranks' ++ drop (n - 1) ranks)
    (marks' ++ drop (marks_each * (n - 1)) marks) (scratch' ++ drop (8 * cells + 2 * side) scratch)
unfolding profile_reply zeroed padded
profile-worked s n cap header values largest ranks marks scratch r ec es em e w =
    let a = (paper r).0 in
    let p : Ended a = rw w.answer (cuts-ended s n (n - 1)) in
    let q = profile_of s n in
    record {
      answer = w.answer ∙ sym e;
      header_is = rw w.header_is (join-end a q.header (replicate (page_header n) 0) (drop (page_header n) header) header p);
      values-is = rw (em, w.values-is) (join-end a (q.values ++ zeros (page_values n - length q.values)) (zeros (page_values n)) (drop (page_values n) values) values p);
      largest-is = rw w.largest-is (join-end a q.largest (zeros (n - 1)) (drop (n - 1) largest) largest p);
      ranks-is = rw w.ranks-is (join-end a q.ranks (replicate (n - 1) 0) (drop (n - 1) ranks) ranks p);
      marks-is = rw w.marks-is (join-end a q.marks (replicate (page_marks n) 0) (drop (page_marks n) marks) marks p);
      scratch-is = rw (ec, es, w.scratch-is) (worked-new a (zeros (page_scratch n) ++ drop (page_scratch n) scratch) scratch p);
    }

pub profile-refused : (s : List Float) (n cap : ℕ) (header : List ℕ) (values largest : List Float) (ranks marks : List ℕ) (scratch : List Float) (e : Refusal)
    → table e ≡ profile_tests s n cap (length header) (length values) (length largest) (length ranks) (length marks) (length scratch)
    → CutProfile s n cap header values largest ranks marks scratch (Err e) header values largest ranks marks scratch
unfolding profile_reply
profile-refused s n cap header values largest ranks marks scratch e i =
    let h = stopped-number e in
    let b : (table e).0 < 8 = rw i (tests-small s n cap (length header) (length values) (length largest) (length ranks) (length marks) (length scratch)) in
    record {
      answer = refused e _ _ i;
      header_is = end-old (table e).0 _ _ header h b;
      values-is = end-old (table e).0 _ _ values h b;
      largest-is = end-old (table e).0 _ _ largest h b;
      ranks-is = end-old (table e).0 _ _ ranks h b;
      marks-is = end-old (table e).0 _ _ marks h b;
      scratch-is = worked-old (table e).0 _ scratch h b;
    }
