-- The refusals before the work: which test says what, and what an accepted call has passed. Assumes nothing.
use mathlib.Core.Path.{◌≡◌, refl, sym, ap}
use mathlib.Core.Bool.{not}
use mathlib.Core.List.{List, [], ◌∷◌}
use Prim.Native.Nat.{ℕ, zero, suc, ◌+◌, ◌/◌, ◌^◌, ◌≤◌, ◌<◌}
use native.Mathlib.Omega.{arith}
use lib.Dec.{eqb, ltb}
use lib.ListN.{length}
use lib.Pow.{pow_mono}
use lib.Ieee.{Float}
use borrow.Author.Tests.{eqb-false, ltb-false}
use Rattle.std.specs.Prelude.{Ok, Err, IfOk}
use Rattle.answers.specs.Paper.{Answer, Reply, paper, done, refuse, exactly, room}
use Rattle.answers.proofs.PaperLaws.{refuse-done, and_then-done, exactly-done, room-done, refuse-small, then-small, exactly-small, room_small}
use Rattle.numbers.specs.Numbers.{allowed_for}
use Rattle.chain_start.specs.Start.{components_for}
use Rattle.chain_checks.specs.Checks.{need_sites, need_marks, need_plane, need_scratch, chain_sizes, result_lengths, scratch_lengths, chain_tests, ChainAccepted}

-- ---- 1

module _ (n limit : ℕ) where
  pub sizes_done : (chain_sizes n limit).0 ≡ 0 → (1 ≤ limit) × (1 ≤ n) × (n ≤ 12)
  unfolding chain_sizes
  sizes_done e =
      let a = refuse-done (eqb limit 0) 0 0 _ e in
      let b = refuse-done (ltb n 1) 0 0 _ a.1 in
      let c = refuse-done (ltb 12 n) 0 0 done b.1 in
      let z : limit ≡ 0 → ⊥ = eqb-false limit 0 a.0 in
      (pick limit z, ltb-false n 1 b.0, ltb-false 12 n c.0)
    where
      pick : (k : ℕ) → (k ≡ 0 → ⊥) → 1 ≤ k
      pick zero h = absurd (h refl)
      pick (suc k) h = omega arith

-- ---- the lengths

pub plane_few : (n : ℕ) → n ≤ 12 → 2 ^ n ≤ 4096
plane_few n h = let m : 2 ^ n ≤ 2 ^ 12 = pow_mono h in omega arith

pub side_few : (n : ℕ) → n ≤ 12 → 2 ^ (n / 2) ≤ 4096
side_few n h = plane_few (n / 2) (omega arith)

pub accepted : (s : List Float) (n limit sites bonds starts marks matrix u vt scratch : ℕ) → (chain_tests s n limit sites bonds starts marks matrix u vt scratch).0 ≡ 0
    → ChainAccepted n limit (length s) sites bonds starts marks matrix u vt scratch
unfolding chain_tests result_lengths scratch_lengths
accepted s n limit sites bonds starts marks matrix u vt scratch e =
    let first = and_then-done (chain_sizes n limit) _ e in
    let z = sizes_done n limit first.0 in
    let second = and_then-done (result_lengths n limit (length s) sites bonds starts marks) _ first.1 in
    let third = and_then-done (scratch_lengths n matrix u vt scratch) (components_for 190 0 s) second.1 in
    let a0 = and_then-done (exactly 0 (length s) (need_plane n)) _ second.0 in
    let a1 = and_then-done (room 1 sites (need_sites n limit)) _ a0.1 in
    let a2 = and_then-done (room 2 bonds (n + 1)) _ a1.1 in
    let a3 = and_then-done (room 3 starts (n + 1)) (room 4 marks (need_marks n)) a2.1 in
    let a5 = and_then-done (room 5 matrix (need_plane n)) _ third.0 in
    let a6 = and_then-done (room 6 u (need_plane n)) _ a5.1 in
    let a7 = and_then-done (room 7 vt (need_plane n)) (room 8 scratch (need_scratch n)) a6.1 in
    record {
      limit-some = z.0;
      some = z.1;
      small = z.2;
      state-is = exactly-done 0 (length s) (need_plane n) a0.0;
      sites-fit = room-done 1 sites (need_sites n limit) a1.0;
      bonds-fit = room-done 2 bonds (n + 1) a2.0;
      starts_fit = room-done 3 starts (n + 1) a3.0;
      marks-fit = room-done 4 marks (need_marks n) a3.1;
      matrix-fits = room-done 5 matrix (need_plane n) a5.0;
      u-fits = room-done 6 u (need_plane n) a6.0;
      vt-fits = room-done 7 vt (need_plane n) a7.0;
      scratch-fits = room-done 8 scratch (need_scratch n) a7.1;
    }

pub accepts : (s : List Float) (n limit sites bonds starts marks matrix u vt scratch : ℕ) (r : Answer) → paper r ≡ chain_tests s n limit sites bonds starts marks matrix u vt scratch
    → IfOk r (λ _. ChainAccepted n limit (length s) sites bonds starts marks matrix u vt scratch)
accepts s n limit sites bonds starts marks matrix u vt scratch (Ok x) e = accepted s n limit sites bonds starts marks matrix u vt scratch (ap (λ (y : Reply). y.0) (sym e))
accepts s n limit sites bonds starts marks matrix u vt scratch (Err x) e = tt

-- ---- no refusal before the work has a number from 8 on

sizes-small : (n limit : ℕ) → (chain_sizes n limit).0 < 8
unfolding chain_sizes
sizes-small n limit =
    let one : 1 < 8 = omega arith in
    let d : (refuse (ltb 12 n) (1, 0) done).0 < 8 = refuse-small (ltb 12 n) 1 0 done one (omega arith) in
    refuse-small (eqb limit 0) 1 0 _ one (refuse-small (ltb n 1) 1 0 _ one d)

results-small : (n limit state sites bonds starts marks : ℕ) → (result_lengths n limit state sites bonds starts marks).0 < 8
unfolding result_lengths
results-small n limit state sites bonds starts marks =
    then-small (exactly 0 state (need_plane n)) _ (exactly-small 0 state (need_plane n))
    (then-small (room 1 sites (need_sites n limit)) _ (room_small 1 sites (need_sites n limit))
    (then-small (room 2 bonds (n + 1)) _ (room_small 2 bonds (n + 1))
    (then-small (room 3 starts (n + 1)) _ (room_small 3 starts (n + 1)) (room_small 4 marks (need_marks n)))))

scratch-small : (n matrix u vt scratch : ℕ) → (scratch_lengths n matrix u vt scratch).0 < 8
unfolding scratch_lengths
scratch-small n matrix u vt scratch =
    then-small (room 5 matrix (need_plane n)) _ (room_small 5 matrix (need_plane n))
    (then-small (room 6 u (need_plane n)) _ (room_small 6 u (need_plane n))
    (then-small (room 7 vt (need_plane n)) _ (room_small 7 vt (need_plane n)) (room_small 8 scratch (need_scratch n))))

state-small : (k i : ℕ) (l : List Float) → (components_for k i l).0 < 8
unfolding components_for
state-small k i [] = omega arith
state-small k i (x ∷ l) = refuse-small (not (allowed_for k x)) 7 (i / 2) (components_for k (suc i) l) (omega arith) (state-small k (suc i) l)

pub tests-small : (s : List Float) (n limit sites bonds starts marks matrix u vt scratch : ℕ) → (chain_tests s n limit sites bonds starts marks matrix u vt scratch).0 < 8
unfolding chain_tests
tests-small s n limit sites bonds starts marks matrix u vt scratch =
    then-small (chain_sizes n limit) _ (sizes-small n limit)
    (then-small (result_lengths n limit (length s) sites bonds starts marks) _ (results-small n limit (length s) sites bonds starts marks)
    (then-small (scratch_lengths n matrix u vt scratch) (components_for 190 0 s) (scratch-small n matrix u vt scratch) (state-small 190 0 s)))
