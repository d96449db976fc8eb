-- The work of an accepted call from its parts. Assumes nothing.
use mathlib.Core.Path.{◌≡◌, sym, ap, ap₂, ◌∙◌}
use mathlib.Core.Bool.{true, false}
use mathlib.Core.List.{List, [], ◌∷◌, ◌++◌, append-nil, append_assoc}
use Prim.Native.Nat.{ℕ, suc, ◌+◌, ◌-◌, ◌*◌, ◌^◌, ◌≤◌, ◌<◌}
use native.Mathlib.Nat.{pow-suc}
use native.Mathlib.Omega.{arith}
use lib.ListN.{length, take, drop, set, get_or, length-append, drop_of_length-le}
use lib.Seq.{set_at, drop-cons, take_at, take_all, length-take-le}
use lib.Pow.{pow_pos, pow_mono}
use lib.Ieee.{Float}
use borrow.Rule.Slice.PartMut.{mid_of, put_mid}
use Rattle.std.specs.Prelude.{Ok, Err}
use Rattle.answers.specs.declared.Refusal.{Refusal}
use Rattle.answers.specs.declared.Refusal.TheVariants.{NoWeight}
use Rattle.complex.specs.Zeros.{zeros}
use Rattle.chain_start.specs.Start.{state_zero, carried_first}
use Rattle.chain_walk.specs.declared.Walked.{Walked}
use Rattle.chain_walk.specs.Chain.{links_to, reply_to, most_of, room_to}
use Rattle.chain_walk.specs.Walk.{Walking, WalkEnd}
use Rattle.chain_walk.proofs.ChainLaws.{Bounds, bounds, room_next}
use Rattle.chain_fill.specs.Fill.{last_of, chain_of, bonds_of, starts_of, marks_of, dropped_of, work_reply, LastRoom, Last, ChainFilled}

-- 8
pub run-zero : (s : List Float) (n : ℕ) (epsilon : Float) (limit : ℕ) {sites : List Float} {bonds starts marks : List ℕ} → state_zero s ≡ true
    → ChainFilled s n epsilon limit (Err NoWeight) sites bonds starts marks
unfolding work_reply
run-zero s n epsilon limit e =
    record {
      answer = rw e;
      made = tt;
    }

reply-is : (s : List Float) (n : ℕ) (epsilon : Float) (limit : ℕ) {first : List Float} → state_zero s ≡ false → first ≡ carried_first s n
    → reply_to first n epsilon limit (n - 1) ≡ work_reply s n epsilon limit
unfolding work_reply
reply-is s n epsilon limit z e = rw (z, e)

-- 9
pub run-refused : (s : List Float) (n : ℕ) (epsilon : Float) (limit : ℕ) {first : List Float} (sites : List Float) (bonds starts marks : List ℕ) (r : Refusal)
    {sites' : List Float} {bonds' starts' marks' : List ℕ} {u' : List Float} {sites'' : List Float} {bonds'' starts'' marks'' : List ℕ} → state_zero s ≡ false → first ≡ carried_first s n
    → WalkEnd first n epsilon limit sites bonds starts marks (Err r) sites' bonds' starts' marks' u'
    → ChainFilled s n epsilon limit (Err r) sites'' bonds'' starts'' marks''
run-refused s n epsilon limit sites bonds starts marks r z e w = record { answer = w.answer ∙ reply-is s n epsilon limit z e; made = tt }

-- ---- the last site

most-last : (n limit : ℕ) → 1 ≤ limit → most_of n limit n ≡ 1
unfolding most_of
most-last n limit h =
    let e : n - n ≡ 0 = omega arith in
    let p : 2 ^ (n - n) ≡ 1 = ap (λ (x : ℕ). 2 ^ x) e in
    omega (arith, pow_pos n)

most-power : (n limit j bond : ℕ) → bond ≤ most_of n limit j → bond ≤ 2 ^ j
unfolding most_of
most-power n limit j bond h = omega (arith, h)

module _ (first : List Float) (n : ℕ) (epsilon : Float) (limit : ℕ) (sites : List Float) (bonds starts marks : List ℕ) (bond at dropped : ℕ)
    {sites' : List Float} {bonds' starts' marks' : List ℕ} {u' : List Float} (some : 1 ≤ n) (limit-some : 1 ≤ limit)
    (w : Walking first n epsilon limit (n - 1) sites bonds starts marks bond at dropped sites' bonds' starts' marks' u') where
  within : Bounds n limit (n - 1) (links_to first n epsilon limit (n - 1))
  within = bounds first n epsilon limit (n - 1) (omega arith) limit-some

  bond-power : bond ≤ 2 ^ (n - 1)
  bond-power = most-power n limit (n - 1) bond (omega (arith, w.bond-is, within.bond-few))

  four : 4 * bond ≤ 2 * 2 ^ n
  four =
      let e : n ≡ suc (n - 1) = omega arith in
      let p : 2 ^ n ≡ 2 ^ (n - 1) * 2 = ap (λ (x : ℕ). 2 ^ x) e ∙ pow-suc 2 (n - 1) in
      omega (arith, bond-power)

  pub last_fits : 2 * at + 4 * bond ≤ 2 * room_to n limit n
  last_fits =
      let e : suc (n - 1) ≡ n = omega arith in
      let r : room_to n limit n ≡ room_to n limit (n - 1) + 2 * most_of n limit (n - 1) * most_of n limit n =
      sym (ap (room_to n limit) e) ∙ room_next n limit (n - 1) ∙ ap (λ (x : ℕ). room_to n limit (n - 1) + 2 * most_of n limit (n - 1) * most_of n limit x) e in
      let m : 2 * most_of n limit (n - 1) * most_of n limit n ≡ 2 * most_of n limit (n - 1) * 1 = ap (λ (x : ℕ). 2 * most_of n limit (n - 1) * x) (most-last n limit limit-some) in
      omega (arith, r, m, w.bond-is, w.at-is, within.bond-few, within.at-few)

  pub last-room : {u'' sites'' bonds'' starts'' : ℕ} → n ≤ 12 → u'' ≡ 2 * 2 ^ n → sites'' ≡ 2 * room_to n limit n → bonds'' ≡ n + 1 → starts'' ≡ n + 1
      → LastRoom n bond at u'' sites'' bonds'' starts''
  last-room small eu es eb et =
      let p : 2 ^ n ≤ 2 ^ 12 = pow_mono small in
      record {
        some = some;
        bond-few = omega (arith, four);
        fits = omega (arith, last_fits, es);
        u-holds = omega (arith, four, eu);
        bonds-is = eb;
        starts_is = et;
      }

  carried-front : take (4 * bond) u' ≡ (links_to first n epsilon limit (n - 1)).carried
  carried-front =
      let e : n - (n - 1) ≡ 1 = omega arith in
      let q : 2 * (2 ^ (n - (n - 1)) * bond) ≡ 4 * bond = ap (λ (x : ℕ). 2 * (2 ^ x * bond)) e ∙ omega arith in
      ap (λ (x : ℕ). take x u') (sym q) ∙ w.carried-is

  whole_long : length u' ≡ 2 * 2 ^ n → length ((links_to first n epsilon limit (n - 1)).sites ++ (links_to first n epsilon limit (n - 1)).carried) ≡ 2 * at + 4 * bond
  whole_long eu =
      let c : length (links_to first n epsilon limit (n - 1)).carried ≡ 4 * bond = ap length (sym carried-front) ∙ length-take-le (4 * bond) u' (omega (arith, four, eu)) in
      length-append (links_to first n epsilon limit (n - 1)).sites (links_to first n epsilon limit (n - 1)).carried ∙ omega (arith, c, within.sites_long, w.at-is)

  pub sites-whole : length u' ≡ 2 * 2 ^ n → length sites' ≡ 2 * room_to n limit n
      → take (2 * at) sites' ++ (take (4 * bond) u' ++ zeros (length sites' - 2 * at - 4 * bond))
      ≡ ((links_to first n epsilon limit (n - 1)).sites ++ (links_to first n epsilon limit (n - 1)).carried)
      ++ zeros (2 * room_to n limit n - length ((links_to first n epsilon limit (n - 1)).sites ++ (links_to first n epsilon limit (n - 1)).carried))
  sites-whole eu es =
      let l = links_to first n epsilon limit (n - 1) in
      let long : length l.sites ≡ 2 * at = omega (arith, within.sites_long, w.at-is) in
      let t : take (2 * at) sites' ≡ l.sites = ap (take (2 * at)) w.sites-is ∙ take_at l.sites (drop (2 * at) sites) (2 * at) long in
      let z : length sites' - 2 * at - 4 * bond ≡ 2 * room_to n limit n - length (l.sites ++ l.carried) = omega (arith, es, whole_long eu) in
      ap₂ (λ (p q : List Float). p ++ (q ++ zeros (length sites' - 2 * at - 4 * bond))) t carried-front
      ∙ ap (λ (x : ℕ). l.sites ++ (l.carried ++ zeros x)) z
      ∙ sym (append_assoc l.sites l.carried (zeros (2 * room_to n limit n - length (l.sites ++ l.carried))))

-- ---- both ends of bonds and starts

ends : (bonds part ranks : List ℕ) (n a b : ℕ) → 1 ≤ n → length bonds ≡ n + 1 → length ranks ≡ n - 1
    → part ≡ ranks ++ drop (n - 1) (mid_of 1 (length bonds - 1) bonds)
    → set (set (put_mid 1 (length bonds - 1) bonds part) 0 a) n b ≡ a ∷ (ranks ++ b ∷ [])
ends [] part ranks n a b h e l i = absurd (omega (arith, e))
ends (x ∷ rest) part ranks n a b h e l i =
    let k : length (x ∷ rest) - 1 ≡ length rest = omega arith in
    let r : length rest ≡ n = omega (arith, e) in
    let m : take (length rest) rest ≡ rest = take_all (length rest) rest (omega arith) in
    let g : length rest ≤ length rest = omega arith in
    let z : drop (length rest) rest ≡ [] = drop_of_length-le rest g in
    let c : n - 1 < length rest = omega arith in
    let y = get_or rest (n - 1) 0 in
    let f : length rest ≤ suc (n - 1) = omega arith in
    let t : drop (n - 1) rest ≡ y ∷ [] = drop-cons rest (n - 1) 0 c ∙ ap (λ (q : List ℕ). y ∷ q) (drop_of_length-le rest f) in
    let p : part ≡ ranks ++ y ∷ [] =
    i ∙ ap (λ (q : ℕ). ranks ++ drop (n - 1) (take q rest)) k ∙ ap (λ (q : List ℕ). ranks ++ drop (n - 1) q) m ∙ ap (λ (q : List ℕ). ranks ++ q) t in
    let o : put_mid 1 (length (x ∷ rest) - 1) (x ∷ rest) part ≡ x ∷ part =
    ap (λ (q : ℕ). x ∷ (part ++ drop q rest)) k ∙ ap (λ (q : List ℕ). x ∷ (part ++ q)) z ∙ ap (λ (q : List ℕ). x ∷ q) (append-nil part) in
    let s : n ≡ suc (n - 1) = omega arith in
    ap (λ (q : List ℕ). set (set q 0 a) n b) (o ∙ ap (λ (q : List ℕ). x ∷ q) p)
    ∙ ap (λ (q : ℕ). set (a ∷ (ranks ++ y ∷ [])) q b) s ∙ ap (λ (q : List ℕ). a ∷ q) (set_at ranks y [] b (n - 1) l)

-- 0
pub run-done : (s : List Float) (n : ℕ) (epsilon : Float) (limit : ℕ) {first : List Float} (sites : List Float) (bonds starts marks : List ℕ) (r : Walked)
    {sites' : List Float} {part part' marks' : List ℕ} {u' : List Float} {sites'' : List Float} {bonds'' starts'' : List ℕ} → state_zero s ≡ false → first ≡ carried_first s n
    → 1 ≤ n → 1 ≤ limit
    → WalkEnd first n epsilon limit sites (mid_of 1 (length bonds - 1) bonds) (mid_of 1 (length starts - 1) starts) marks (Ok r) sites' part part' marks' u'
    → length bonds ≡ n + 1 → length starts ≡ n + 1 → length marks ≡ 3 * (n - 1) → length u' ≡ 2 * 2 ^ n → length sites' ≡ 2 * room_to n limit n
    → Last n r.bond r.at u' sites' (put_mid 1 (length bonds - 1) bonds part) (put_mid 1 (length starts - 1) starts part') sites'' bonds'' starts''
    → ChainFilled s n epsilon limit (Ok r.dropped) sites'' bonds'' starts'' marks'
unfolding last_of chain_of bonds_of starts_of marks_of dropped_of
run-done s n epsilon limit sites bonds starts marks r z e some limit-some w eb et em eu es last =
    let v = rw e at w in
    let k = v.walked in
    let l = links_to (carried_first s n) n epsilon limit (n - 1) in
    let b : Bounds n limit (n - 1) l = bounds (carried_first s n) n epsilon limit (n - 1) (omega arith) limit-some in
    let m : length marks ≤ 3 * (n - 1) = omega (arith, em) in
    let a : r.at + 2 * r.bond ≡ l.at + 2 * l.bond = ap₂ (λ (x y : ℕ). x + 2 * y) k.at-is k.bond-is in
    record {
      answer = w.answer ∙ reply-is s n epsilon limit z e;
      made =
          record {
            dropped-is = k.dropped-is;
            sites-is = last.sites-is ∙ sites-whole (carried_first s n) n epsilon limit sites _ _ marks r.bond r.at r.dropped some limit-some k eu es;
            bonds-is = last.bonds-is ∙ ends bonds _ l.ranks n 1 1 some eb b.ranks-long k.bonds-is;
            starts_is =
                last.starts_is ∙ ends starts _ l.ends n 0 (r.at + 2 * r.bond) some et b.ends-long k.starts_is
                ∙ ap (λ (x : ℕ). 0 ∷ (l.ends ++ x ∷ [])) a;
            marks-is = k.marks-is ∙ ap (λ (x : List ℕ). l.marks ++ x) (drop_of_length-le marks m) ∙ append-nil l.marks;
          };
    }
