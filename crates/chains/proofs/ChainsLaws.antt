-- The call from its parts: an accepted one and a refused one. Assumes nothing.
use mathlib.Core.Path.{◌≡◌, refl, sym, ap, ◌∙◌}
use mathlib.Core.Bool.{Bool, true, false}
use mathlib.Core.List.{List, ◌++◌}
use mathlib.Core.Logic.{inl, inr}
use Prim.Native.Nat.{ℕ, zero, suc, ◌+◌, ◌-◌, ◌*◌, ◌/◌, ◌^◌, ◌<◌}
use native.Mathlib.Omega.{arith}
use lib.ListN.{length, drop, replicate}
use lib.Ieee.{Float}
use Rattle.answers.specs.Paper.{Reply, paper, table, given, done, refuse, after, and_then, if_done}
use Rattle.answers.proofs.PaperLaws.{done-old, worked-new, worked-old, end-old, Ended, nine-ended}
use Rattle.complex.specs.Zeros.{zeros, zeroed}
use Rattle.components.specs.Every.{every_allowed}
use Rattle.svd.specs.Svd.{u_of, s_of, vt_of, finite_factors, svd_end}
use Rattle.svd.proofs.SvdLaws.{zeroed-all, join-end}
use Rattle.chain_start.specs.Start.{state_zero, carried_first}
use Rattle.chain_step.specs.Step.{carried_reply, carried_on, step_reply}
use Rattle.chain_walk.specs.Chain.{next_matrix, next_rank, links_to, reply_to, room_to}
use Rattle.std.specs.Prelude.{Result, Ok, Err, IfOk, is_err}
use Rattle.answers.specs.declared.Refusal.{Refusal}
use Rattle.answers.proofs.Stopped.{refused, stopped-number}
use Rattle.chain_fill.specs.Fill.{bonds_of, starts_of, marks_of, dropped_of, work_reply, ChainFilled}
use Rattle.chain_checks.specs.Checks.{need_sites, need_marks, need_plane, need_scratch, chain_tests}
use Rattle.chain_checks.proofs.CheckLaws.{tests-small}
use Rattle.chains.specs.Chains.{sites_filled, counts_cleared, chain_reply, ChainOfSites, ChainWorked}

-- ---- the work

-- a list of the needed length that was zeroed
cleared : (l : List Float) (m : ℕ) {l' : List Float} → length l ≡ m → l' ≡ zeroed (length l) l → l' ≡ zeros m
cleared l m e h = h ∙ zeroed-all l ∙ ap zeros e

counts-cleared : (l : List ℕ) (m : ℕ) {l' : List ℕ} → length l ≡ m → l' ≡ replicate (length l) 0 → l' ≡ replicate m 0
counts-cleared l m e h = h ∙ ap (λ (x : ℕ). replicate x 0) e

module _ (s : List Float) (n : ℕ) (epsilon : Float) (limit : ℕ) (matrix u vt scratch : List Float) {matrix' u' vt' scratch' : List Float}
    (lm : length matrix ≡ need_plane n) (lu : length u ≡ need_plane n) (lv : length vt ≡ need_plane n) (lk : length scratch ≡ need_scratch n)
    (z : (matrix' ≡ zeroed (length matrix) matrix) × (u' ≡ zeroed (length u) u) × (vt' ≡ zeroed (length vt) vt) × (scratch' ≡ zeroed (length scratch) scratch)) where
  pub work-done : (r : Result ℕ Refusal) {sites : List Float} {bonds starts marks : List ℕ} → ChainFilled s n epsilon limit r sites bonds starts marks
      → is_err r ≡ false → ChainWorked s n epsilon limit r sites bonds starts marks matrix' u' vt' scratch'
  unfolding sites_filled
  work-done (Err e) f d = absurd (cc)
  work-done (Ok x) f d =
      record {
        answer = f.answer;
        dropped-is = f.made.dropped-is;
        sites-is = f.made.sites-is;
        bonds-is = f.made.bonds-is;
        starts_is = f.made.starts_is;
        marks-is = f.made.marks-is;
        matrix-is = cleared matrix (need_plane n) lm z.0;
        u-is = cleared u (need_plane n) lu z.1;
        vt_is = cleared vt (need_plane n) lv z.2;
        scratch-is = cleared scratch (need_scratch n) lk z.3;
      }

  pub work-stopped : (r : Result ℕ Refusal) (sites : List Float) (bonds starts marks : List ℕ) {sites' : List Float} {bonds' starts' marks' : List ℕ}
      → ChainFilled s n epsilon limit r sites bonds starts marks → is_err r ≡ true
      → length sites ≡ need_sites n limit → length bonds ≡ n + 1 → length starts ≡ n + 1 → length marks ≡ need_marks n
      → (sites' ≡ zeroed (length sites) sites) × (bonds' ≡ replicate (length bonds) 0) × (starts' ≡ replicate (length starts) 0) × (marks' ≡ replicate (length marks) 0)
      → ChainWorked s n epsilon limit r sites' bonds' starts' marks' matrix' u' vt' scratch'
  work-stopped (Ok x) sites bonds starts marks f d ls lb lt la y = absurd (cc)
  work-stopped (Err e) sites bonds starts marks f d ls lb lt la y =
      let h = stopped-number e in
      record {
        answer = f.answer;
        dropped-is = tt;
        sites-is = cleared sites (need_sites n limit) ls y.0 ∙ done-old (table e).0 (sites_filled s n epsilon limit) _ h;
        bonds-is = counts-cleared bonds (n + 1) lb y.1 ∙ done-old (table e).0 (bonds_of s n epsilon limit) _ h;
        starts_is = counts-cleared starts (n + 1) lt y.2 ∙ done-old (table e).0 (starts_of s n epsilon limit) _ h;
        marks-is = counts-cleared marks (need_marks n) la y.3 ∙ done-old (table e).0 (marks_of s n epsilon limit) _ h;
        matrix-is = cleared matrix (need_plane n) lm z.0;
        u-is = cleared u (need_plane n) lu z.1;
        vt_is = cleared vt (need_plane n) lv z.2;
        scratch-is = cleared scratch (need_scratch n) lk z.3;
      }

-- ---- the work's answer is 0, 8 or 9

after-ended : (k : ℕ) (x b : Reply) → Ended x.0 → Ended b.0 → Ended (after k x b).0
after-ended zero x b h i = i
after-ended (suc k) x b h i = h

end-ended : (u s vt : List Float) → Ended (svd_end u s vt).0
unfolding svd_end
end-ended u s vt = nine-ended (finite_factors u s vt) done (inl refl)

carried-ended : (carried : List Float) → Ended (carried_reply carried).0
unfolding carried_reply
carried-ended carried = nine-ended (every_allowed carried) done (inl refl)

step-ended : (a : List Float) (rows columns chi : ℕ) → Ended (step_reply a rows columns chi).0
unfolding step_reply
step-ended a rows columns chi =
    let e = svd_end (u_of a rows columns) (s_of a rows columns) (vt_of a rows columns) in
    after-ended e.0 e (carried_reply (carried_on a rows columns chi)) (end-ended (u_of a rows columns) (s_of a rows columns) (vt_of a rows columns))
    (carried-ended (carried_on a rows columns chi))

reply-ended : (first : List Float) (n : ℕ) (epsilon : Float) (limit j : ℕ) → Ended (reply_to first n epsilon limit j).0
unfolding reply_to
reply-ended first n epsilon limit zero = inl refl
reply-ended first n epsilon limit (suc j) =
    let l = links_to first n epsilon limit j in
    let columns = 2 ^ (n - 1 - j) in
    let x = reply_to first n epsilon limit j in
    after-ended x.0 x (step_reply (next_matrix l columns) (2 * l.bond) columns (next_rank l columns epsilon limit)) (reply-ended first n epsilon limit j)
    (step-ended (next_matrix l columns) (2 * l.bond) columns (next_rank l columns epsilon limit))

eight-ended : (t : Bool) (b : Reply) → Ended b.0 → Ended (refuse t (8, 0) b).0
eight-ended true b h = inr (omega arith, omega arith)
eight-ended false b h = h

pub work-ended : (s : List Float) (n : ℕ) (epsilon : Float) (limit : ℕ) → Ended (work_reply s n epsilon limit).0
unfolding work_reply
work-ended s n epsilon limit =
    eight-ended (state_zero s) (reply_to (carried_first s n) n epsilon limit (n - 1)) (reply-ended (carried_first s n) n epsilon limit (n - 1))

-- ---- an accepted call, and a refused one

-- what an answer says of the count of drops
drops : (r : Result ℕ Refusal) (d : ℕ) → IfOk r (λ x. x ≡ d) → given 0 r ≡ if_done (paper r).0 d 0
drops (Ok x) d h = h
drops (Err e) d h = done-old (table e).0 d 0 (stopped-number e)

pub chain-worked : (s : List Float) (n : ℕ) (epsilon : Float) (limit : ℕ) (sites : List Float) (bonds starts marks : List ℕ) (matrix u vt scratch : List Float) (r : Result ℕ Refusal)
    {sites' : List Float} {bonds' starts' marks' : List ℕ} {matrix' u' vt' scratch' : List Float} {cells side most : ℕ}
    → cells ≡ 2 ^ n → side ≡ 2 ^ (n / 2) → most ≡ room_to n limit n
    → and_then (chain_tests s n limit (length sites) (length bonds) (length starts) (length marks) (length matrix) (length u) (length vt) (length scratch)) (work_reply s n epsilon limit)
    ≡ work_reply s n epsilon limit
    → ChainWorked s n epsilon limit r sites' bonds' starts' marks' matrix' u' vt' scratch'
    → ChainOfSites s n epsilon limit sites bonds starts marks matrix u vt scratch r
    (sites' ++ drop (2 * most) sites) (bonds' ++ drop (n + 1) bonds) (starts' ++ drop (n + 1) starts) (marks' ++ drop (3 * (n - 1)) marks)
    (matrix' ++ drop (2 * cells) matrix) (u' ++ drop (2 * cells) u) (vt' ++ drop (2 * cells) vt) (scratch' ++ drop (6 * cells + 2 * side) scratch)
unfolding chain_reply zeroed counts_cleared
chain-worked s n epsilon limit sites bonds starts marks matrix u vt scratch r ec es em e w =
    let a = (paper r).0 in
    let p : Ended a = rw w.answer (work-ended s n epsilon limit) in
    record {
      answer = w.answer ∙ sym e;
      dropped-is = drops r (dropped_of s n epsilon limit) w.dropped-is;
      sites-is = rw (em, w.sites-is) (join-end a (sites_filled s n epsilon limit) (zeros (need_sites n limit)) (drop (need_sites n limit) sites) sites p);
      bonds-is = rw w.bonds-is (join-end a (bonds_of s n epsilon limit) (replicate (n + 1) 0) (drop (n + 1) bonds) bonds p);
      starts_is = rw w.starts_is (join-end a (starts_of s n epsilon limit) (replicate (n + 1) 0) (drop (n + 1) starts) starts p);
      marks-is = rw w.marks-is (join-end a (marks_of s n epsilon limit) (replicate (need_marks n) 0) (drop (need_marks n) marks) marks p);
      matrix-is = rw (ec, w.matrix-is) (worked-new a (zeros (need_plane n) ++ drop (need_plane n) matrix) matrix p);
      u-is = rw (ec, w.u-is) (worked-new a (zeros (need_plane n) ++ drop (need_plane n) u) u p);
      vt_is = rw (ec, w.vt_is) (worked-new a (zeros (need_plane n) ++ drop (need_plane n) vt) vt p);
      scratch-is = rw (ec, es, w.scratch-is) (worked-new a (zeros (need_scratch n) ++ drop (need_scratch n) scratch) scratch p);
    }

pub chain-refused : (s : List Float) (n : ℕ) (epsilon : Float) (limit : ℕ) (sites : List Float) (bonds starts marks : List ℕ) (matrix u vt scratch : List Float) (q : Refusal)
    → table q ≡ chain_tests s n limit (length sites) (length bonds) (length starts) (length marks) (length matrix) (length u) (length vt) (length scratch)
    → ChainOfSites s n epsilon limit sites bonds starts marks matrix u vt scratch (Err q) sites bonds starts marks matrix u vt scratch
unfolding chain_reply
chain-refused s n epsilon limit sites bonds starts marks matrix u vt scratch q e =
    let h = stopped-number q in
    let b : (table q).0 < 8 = rw e (tests-small s n limit (length sites) (length bonds) (length starts) (length marks) (length matrix) (length u) (length vt) (length scratch)) in
    record {
      answer = refused q _ _ e;
      dropped-is = done-old (table q).0 (dropped_of s n epsilon limit) 0 h;
      sites-is = end-old (table q).0 _ _ sites h b;
      bonds-is = end-old (table q).0 _ _ bonds h b;
      starts_is = end-old (table q).0 _ _ starts h b;
      marks-is = end-old (table q).0 _ _ marks h b;
      matrix-is = worked-old (table q).0 _ matrix h b;
      u-is = worked-old (table q).0 _ u h b;
      vt_is = worked-old (table q).0 _ vt h b;
      scratch-is = worked-old (table q).0 _ scratch h b;
    }
