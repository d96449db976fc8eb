-- The walk: what its steps leave is what `links_to` says. Assumes nothing.
use mathlib.Core.Path.{◌≡◌, refl, sym, ap, ap₂, ◌∙◌}
use mathlib.Core.List.{List, [], ◌∷◌, ◌++◌, append_assoc}
use Prim.Native.Nat.{ℕ, zero, suc, ◌+◌, ◌-◌, ◌*◌, ◌^◌, ◌≤◌, ◌<◌, min}
use native.Mathlib.Nat.{mul_comm, mul_assoc, mul-le-mul, pow-suc}
use native.Mathlib.Numerals.{add-one}
use native.Mathlib.Omega.{arith}
use lib.ListN.{length, take, drop, set}
use lib.Seq.{take_at, drop_at, drop-drop, take_all, set_split}
use lib.Ieee.{Float}
use Rattle.std.specs.Prelude.{Result, Ok, Err}
use Rattle.answers.specs.declared.Refusal.{Refusal}
use Rattle.answers.specs.Paper.{Reply, paper, and_then}
use Rattle.answers.proofs.Stopped.{stopped-number}
use Rattle.answers.proofs.PaperLaws.{stays}
use Rattle.site_ranks.specs.Ranks.{discards_of}
use Rattle.svd.specs.Svd.{side_of, s_of, svd_sweeps}
use Rattle.chain_step.specs.Step.{columnwise, step_site, carried_on, step_reply}
use Rattle.chain_link.specs.OneLink.{rows_at, columns_at, cells_at}
use Rattle.chain_walk.specs.declared.Walked.{Walked}
use Rattle.cut_marks.specs.Marks.{one_if, cut_marks}
use Rattle.chain_walk.specs.Chain.{Links, next_matrix, next_rank, links_to, reply_to, most_of}
use Rattle.chain_walk.specs.Walk.{NextRoom, Next, WalkRoom, Walking, WalkEnd}
use Rattle.chain_walk.proofs.ChainLaws.{Bounds, bounds, most-next, room_next, room_within}

-- ---- the start

pub walk_start : (n : ℕ) (epsilon : Float) (limit : ℕ) (sites u : List Float) (bonds starts marks : List ℕ) → length u ≡ 2 * 2 ^ n
    → Walking u n epsilon limit 0 sites bonds starts marks 1 0 0 sites bonds starts marks u
unfolding links_to reply_to
walk_start n epsilon limit sites u bonds starts marks e =
    let x : n - 0 ≡ n = omega arith in
    let m : 2 * (2 ^ (n - 0) * 1) ≡ 2 * 2 ^ n = ap (λ (y : ℕ). 2 * (2 ^ y * 1)) x ∙ omega arith in
    record {
      bond-is = refl;
      at-is = refl;
      dropped-is = refl;
      sites-is = refl;
      bonds-is = refl;
      starts_is = refl;
      marks-is = refl;
      carried-is = take_all (2 * (2 ^ (n - 0) * 1)) u (omega (arith, m, e));
      reply-is = refl;
    }

-- ---- the room of a step

most-power : (n limit j bond : ℕ) → bond ≤ most_of n limit j → bond ≤ 2 ^ j
unfolding most_of
most-power n limit j bond h = omega (arith, h)

pub next-room : (n limit j bond at dropped : ℕ) {sites bonds starts marks u vt scratch : ℕ} (l : Links) → suc j < n → Bounds n limit j l
    → bond ≡ l.bond → at ≡ l.at → dropped ≡ l.dropped → WalkRoom n limit sites bonds starts marks u vt scratch
    → NextRoom n j bond at dropped limit sites bonds starts marks u vt scratch
next-room n limit j bond at dropped l h b eb ea ed w =
    let few : bond ≤ most_of n limit j = omega (arith, eb, b.bond-few) in
    let m : min (side_of (2 * bond) (2 ^ (n - 1 - j))) limit ≤ most_of n limit (suc j) = most-next n limit j bond h few in
    let wide : 2 * bond ≤ 2 * most_of n limit j = omega arith in
    let q : 2 * bond * min (side_of (2 * bond) (2 ^ (n - 1 - j))) limit ≤ 2 * most_of n limit j * most_of n limit (suc j) = mul-le-mul wide m in
    let i : suc j ≤ n = omega arith in
    record {
      room =
          record {
            small = w.small;
            inside = omega arith;
            bond-some = omega (arith, eb, b.bond-some);
            bond-few = most-power n limit j bond few;
            site-fits = omega (arith, q, ea, b.at-few, room_next n limit j, room_within n limit (suc j) i, w.sites-fit);
            u-is = w.u-is;
            vt_is = w.vt_is;
            scratch-is = w.scratch-is;
          };
      in-bonds = omega (arith, w.bonds-fit);
      in-starts = omega (arith, w.starts_fit);
      in-marks = omega (arith, w.marks-fit);
      dropped-few = omega (arith, ed, b.dropped-few, w.small);
    }

-- the slices keep their lengths
pub room-now : (n limit : ℕ) {sites bonds starts marks u vt scratch sites' bonds' starts' marks' u' vt' scratch' : ℕ} → WalkRoom n limit sites bonds starts marks u vt scratch
    → sites' ≡ sites → bonds' ≡ bonds → starts' ≡ starts → marks' ≡ marks → u' ≡ u → vt' ≡ vt → scratch' ≡ scratch
    → WalkRoom n limit sites' bonds' starts' marks' u' vt' scratch'
room-now n limit w a b c d e f g = rw (a, b, c, d, e, f, g) w

-- ---- one step more

-- a number put after those that are there
put : (ranks bonds bonds' : List ℕ) (j x : ℕ) → length ranks ≡ j → j < length bonds' → bonds' ≡ ranks ++ drop j bonds
    → set bonds' j x ≡ (ranks ++ x ∷ []) ++ drop (suc j) bonds
put ranks bonds bonds' j x e h i =
    let t : take j bonds' ≡ ranks = ap (take j) i ∙ take_at ranks (drop j bonds) j e in
    let d : drop j bonds' ≡ drop j bonds = ap (drop j) i ∙ drop_at ranks (drop j bonds) j e in
    let n : j + 1 ≡ suc j = omega arith in
    let s : (xs : List ℕ) → drop (suc j) xs ≡ drop 1 (drop j xs) = λ xs. ap (λ (y : ℕ). drop y xs) (sym n) ∙ sym (drop-drop 1 j xs) in
    let f : drop (suc j) bonds' ≡ drop (suc j) bonds = s bonds' ∙ ap (drop 1) d ∙ sym (s bonds) in
    set_split bonds' j x h ∙ ap₂ (λ (p q : List ℕ). p ++ x ∷ q) t f ∙ sym (append_assoc ranks (x ∷ []) (drop (suc j) bonds))

-- a part after those that are there
joined : {A : Type 0} (front part old now : List A) (p q : ℕ) → length front ≡ p → now ≡ front ++ drop p old
    → take p now ++ (part ++ drop (p + q) now) ≡ (front ++ part) ++ drop (p + q) old
joined {A} front part old now p q e i =
    let t : take p now ≡ front = ap (take p) i ∙ take_at front (drop p old) p e in
    let d : drop p now ≡ drop p old = ap (drop p) i ∙ drop_at front (drop p old) p e in
    let f : drop (p + q) now ≡ drop (p + q) old = sym (drop-drop q p now) ∙ ap (drop q) d ∙ drop-drop q p old in
    ap₂ (λ (x y : List A). x ++ (part ++ y)) t f ∙ sym (append_assoc front part (drop (p + q) old))

-- the site after those that are there
laid : (front site sites sites' : List Float) (at more : ℕ) → length front ≡ 2 * at → sites' ≡ front ++ drop (2 * at) sites
    → take (2 * at) sites' ++ (site ++ drop (2 * (at + more)) sites') ≡ (front ++ site) ++ drop (2 * (at + more)) sites
laid front site sites sites' at more e i =
    let n : 2 * at + 2 * more ≡ 2 * (at + more) = omega arith in
    rw n at (joined front site sites sites' (2 * at) (2 * more) e i)

-- a step that is refused ends the chain
reply-stays : (first : List Float) (n : ℕ) (epsilon : Float) (limit i d : ℕ) → ((reply_to first n epsilon limit i).0 ≡ 0 → ⊥)
    → reply_to first n epsilon limit i ≡ reply_to first n epsilon limit (d + i)
unfolding reply_to
reply-stays first n epsilon limit i zero b = let e : 0 + i ≡ i = omega arith in rw e
reply-stays first n epsilon limit i (suc d) b =
    let e : suc d + i ≡ suc (d + i) = omega arith in
    let h = reply-stays first n epsilon limit i d b in
    let m : (reply_to first n epsilon limit (d + i)).0 ≡ 0 → ⊥ = λ z. b (ap (λ (x : Reply). x.0) h ∙ z) in
    h ∙ stays (reply_to first n epsilon limit (d + i)) _ m ∙ ap (reply_to first n epsilon limit) (sym e)

module _ (first : List Float) (n : ℕ) (epsilon : Float) (limit j : ℕ) (sites : List Float) (bonds starts marks : List ℕ) (bond at dropped : ℕ)
    (sites' : List Float) (bonds' starts' marks' : List ℕ) (u' : List Float) (h : suc j < n) (some : 1 ≤ limit)
    (w : Walking first n epsilon limit j sites bonds starts marks bond at dropped sites' bonds' starts' marks' u') where
  within : Bounds n limit j (links_to first n epsilon limit j)
  within = bounds first n epsilon limit j (omega arith) some

  pub room-of-next : {sites'' bonds'' starts'' marks'' u vt scratch : ℕ} → WalkRoom n limit sites'' bonds'' starts'' marks'' u vt scratch
      → NextRoom n j bond at dropped limit sites'' bonds'' starts'' marks'' u vt scratch
  room-of-next r = next-room n limit j bond at dropped (links_to first n epsilon limit j) h within w.bond-is w.at-is w.dropped-is r

  cells_are : 2 * cells_at n j bond ≡ 2 * (2 ^ (n - j) * bond)
  cells_are =
      let c = 2 ^ (n - 1 - j) in
      let e : n - j ≡ suc (n - 1 - j) = omega arith in
      let p : 2 ^ (n - j) ≡ c * 2 = ap (λ (x : ℕ). 2 ^ x) e ∙ pow-suc 2 (n - 1 - j) in
      let q : 2 ^ (n - j) * bond ≡ c * (2 * bond) = ap (λ (x : ℕ). x * bond) p ∙ mul_assoc c 2 bond in
      ap (λ (x : ℕ). 2 * x) (mul_comm (2 * bond) c ∙ sym q)

  same-matrix : columnwise (take (2 * cells_at n j bond) u') (rows_at bond) (columns_at n j) ≡ next_matrix (links_to first n epsilon limit j) (2 ^ (n - 1 - j))
  same-matrix =
      ap (λ (x : ℕ). columnwise (take x u') (rows_at bond) (columns_at n j)) cells_are
      ∙ ap₂ (λ (x : List Float) (y : ℕ). columnwise x (2 * y) (columns_at n j)) w.carried-is w.bond-is

  module _ (r : Result Walked Refusal) {sites'' : List Float} {bonds'' starts'' marks'' : List ℕ} {u'' : List Float}
      (t : Next (columnwise (take (2 * cells_at n j bond) u') (rows_at bond) (columns_at n j)) (rows_at bond) (columns_at n j) j at dropped epsilon limit sites' bonds' starts' marks' r sites'' bonds'' starts'' marks'' u'') where
    next-is : Next (next_matrix (links_to first n epsilon limit j) (2 ^ (n - 1 - j))) (2 * (links_to first n epsilon limit j).bond) (2 ^ (n - 1 - j)) j at dropped epsilon limit sites' bonds' starts' marks' r sites'' bonds'' starts'' marks'' u''
    next-is = rw (same-matrix, w.bond-is) at t

    answer-is : paper r ≡ reply_to first n epsilon limit (suc j)
    unfolding reply_to
    answer-is = next-is.answer ∙ sym (ap (λ (x : Reply). and_then x (step_reply (next_matrix (links_to first n epsilon limit j) (2 ^ (n - 1 - j))) (2 * (links_to first n epsilon limit j).bond) (2 ^ (n - 1 - j)) (next_rank (links_to first n epsilon limit j) (2 ^ (n - 1 - j)) epsilon limit))) w.reply-is)

  -- a step that was taken
  module _ {r : Walked} {sites'' : List Float} {bonds'' starts'' marks'' : List ℕ} {u'' : List Float}
      (t : Next (columnwise (take (2 * cells_at n j bond) u') (rows_at bond) (columns_at n j)) (rows_at bond) (columns_at n j) j at dropped epsilon limit sites' bonds' starts' marks' (Ok r) sites'' bonds'' starts'' marks'' u'') where
    walk_more : j < length bonds' → j < length starts'
        → Walking first n epsilon limit (suc j) sites bonds starts marks r.bond r.at r.dropped sites'' bonds'' starts'' marks'' u''
    unfolding links_to
    walk_more hb hs =
        let l = links_to first n epsilon limit j in
        let columns = 2 ^ (n - 1 - j) in
        let rows = 2 * l.bond in
        let k = (next-is (Ok r) t).taken in
        let b : r.bond ≡ next_rank l columns epsilon limit = k.bond-is in
        let e : 2 ^ (n - suc j) ≡ columns = ap (λ (x : ℕ). 2 ^ x) (omega arith) in
        let long : length l.sites ≡ 2 * at = omega (arith, within.sites_long, w.at-is) in
        let a : r.at ≡ at + rows * r.bond = k.at-is in
        let three : 3 * j + 3 ≡ 3 * suc j = omega arith in
        let site : sites'' ≡ (l.sites ++ step_site (next_matrix l columns) rows columns r.bond) ++ drop (2 * r.at) sites =
        k.sites-is ∙ rw a (laid l.sites (step_site (next_matrix l columns) rows columns r.bond) sites sites' at (rows * r.bond) long w.sites-is) in
        record {
          bond-is = b;
          at-is = a ∙ ap₂ (λ (x y : ℕ). x + rows * y) w.at-is b;
          dropped-is = k.dropped-is ∙ ap₂ (λ (x y : ℕ). x + one_if (discards_of (s_of (next_matrix l columns) rows columns) y)) w.dropped-is b;
          sites-is = site ∙ ap (λ (x : ℕ). (l.sites ++ step_site (next_matrix l columns) rows columns x) ++ drop (2 * r.at) sites) b;
          bonds-is = k.bonds-is ∙ put l.ranks bonds bonds' j r.bond within.ranks-long hb w.bonds-is ∙ ap (λ (x : ℕ). (l.ranks ++ x ∷ []) ++ drop (suc j) bonds) b;
          starts_is = k.starts_is ∙ put l.ends starts starts' j r.at within.ends-long hs w.starts_is ∙ ap (λ (x : ℕ). (l.ends ++ x ∷ []) ++ drop (suc j) starts) (a ∙ ap₂ (λ (x y : ℕ). x + rows * y) w.at-is b);
          marks-is =
              k.marks-is ∙ joined l.marks (cut_marks (svd_sweeps (next_matrix l columns) rows columns)) marks marks' (3 * j) 3 within.marks-long w.marks-is
              ∙ ap (λ (x : ℕ). (l.marks ++ cut_marks (svd_sweeps (next_matrix l columns) rows columns)) ++ drop x marks) three;
          carried-is = ap (λ (x : ℕ). take (2 * (x * r.bond)) u'') e ∙ k.carried-is ∙ ap (carried_on (next_matrix l columns) rows columns) b;
          reply-is = sym (answer-is (Ok r) t);
        }

    pub walk-next : j < length bonds' → j < length starts'
        → Walking first n epsilon limit (j + 1) sites bonds starts marks r.bond r.at r.dropped sites'' bonds'' starts'' marks'' u''
    walk-next hb hs = rw add-one (walk_more hb hs)

  -- a refusal stays to the end
  pub walk_refused : (e : Refusal) {sites'' : List Float} {bonds'' starts'' marks'' : List ℕ} {u'' : List Float}
      → Next (columnwise (take (2 * cells_at n j bond) u') (rows_at bond) (columns_at n j)) (rows_at bond) (columns_at n j) j at dropped epsilon limit sites' bonds' starts' marks' (Err e) sites'' bonds'' starts'' marks'' u''
      → WalkEnd first n epsilon limit sites bonds starts marks (Err e) sites'' bonds'' starts'' marks'' u''
  walk_refused e t =
      let a = answer-is (Err e) t in
      let m : (reply_to first n epsilon limit (suc j)).0 ≡ 0 → ⊥ = λ z. stopped-number e (ap (λ (x : Reply). x.0) a ∙ z) in
      let i : n - 1 - suc j + suc j ≡ n - 1 = omega arith in
      record {
        answer = a ∙ reply-stays first n epsilon limit (suc j) (n - 1 - suc j) m ∙ ap (reply_to first n epsilon limit) i;
        walked = tt;
      }

-- every step was answered 0
pub walk_end : (first : List Float) (n : ℕ) (epsilon : Float) (limit j : ℕ) (sites : List Float) (bonds starts marks : List ℕ) (bond at dropped : ℕ)
    {sites' : List Float} {bonds' starts' marks' : List ℕ} {u' : List Float} → j ≡ n - 1
    → Walking first n epsilon limit j sites bonds starts marks bond at dropped sites' bonds' starts' marks' u'
    → WalkEnd first n epsilon limit sites bonds starts marks (Ok (record { bond = bond; at = at; dropped = dropped })) sites' bonds' starts' marks' u'
walk_end first n epsilon limit j sites bonds starts marks bond at dropped e w =
    let v = rw e at w in
    record { answer = sym v.reply-is; walked = v }
