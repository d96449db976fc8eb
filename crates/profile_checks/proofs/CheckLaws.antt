-- The refusals before the work: which test says what, and what an accepted call has passed. Assumes nothing.
use mathlib.Core.Path.{◌≡◌, refl, sym, ap, ap₂, ◌∙◌}
use mathlib.Core.Bool.{not}
use mathlib.Core.List.{List, [], ◌∷◌}
use Prim.Native.Nat.{ℕ, zero, suc, ◌+◌, ◌-◌, ◌*◌, ◌/◌, ◌^◌, ◌≤◌, ◌<◌, min}
use native.Mathlib.Numerals.{add-one}
use native.Mathlib.Omega.{arith}
use lib.Dec.{eqb, ltb, leb}
use lib.ListN.{length}
use lib.Pow.{pow_mono}
use lib.Ieee.{Float}
use Rattle.std.specs.Prelude.{Ok, Err, IfOk}
use Rattle.answers.specs.Paper.{Answer, Reply, paper, done, refuse, and_then, exactly, room}
use Rattle.answers.proofs.PaperLaws.{and_then-done, exactly-done, room-done, refuse-small, after_small}
use Rattle.complex.specs.Cells.{components}
use Rattle.complex.proofs.CellLaws.{components-small}
use Rattle.qubits.specs.Lists.{stands, places_from, places, qubit_set, subsystem}
use Rattle.cut_sides.specs.Sides.{cut_sizes, cut_refusal}
use Rattle.cut_sides.proofs.SideLaws.{is-parted}
use Rattle.profile_cut.specs.Cut.{room_at}
use Rattle.profile_walk.specs.Page.{cuts_room, WalkRoom}
use Rattle.profile_walk.proofs.PageLaws.{half-most}
use Rattle.profile_checks.specs.Checks.{page_header, page_values, page_marks, page_scratch, page_lengths, index_lengths, profile_tests}

-- ---- the room

pub plane_few : (n : ℕ) → n ≤ 12 → 2 ^ n ≤ 4096
plane_few n h = let m : 2 ^ n ≤ 2 ^ 12 = pow_mono h in omega arith

pub half_few : (n : ℕ) → n ≤ 12 → 2 ^ (n / 2) ≤ 64
half_few n h = let m : 2 ^ (n / 2) ≤ 2 ^ 6 = pow_mono {i = n / 2} {j = 6} (omega arith) in omega arith

pub room-few-at : (n j : ℕ) → n ≤ 12 → suc j < n → room_at n j ≤ 64
room-few-at n j h i = omega (arith, half_few n h, half-most n j i)

pub room-few : (n j : ℕ) → n ≤ 12 → j < n → cuts_room n j ≤ 64 * j
unfolding cuts_room
room-few n zero h i = omega arith
room-few n (suc j) h i = omega (arith, room-few n j h (omega arith), room-few-at n j h i)

pub room-none : (n : ℕ) → 0 ≡ cuts_room n 0
unfolding cuts_room
room-none n = refl

term_is : (n j : ℕ) {k more : ℕ} → suc j < n → k ≡ min (j + 1) (n - 1 - j) → more ≡ 2 ^ k → more ≡ room_at n j
term_is n j h e f =
    let a : j + 1 ≡ suc j = add-one j in
    let b : n - 1 - j ≡ n - suc j = omega arith in
    f ∙ ap (λ (x : ℕ). 2 ^ x) (e ∙ ap₂ min a b)

pub term_few : (n j : ℕ) {k more : ℕ} → n ≤ 12 → suc j < n → k ≡ min (j + 1) (n - 1 - j) → more ≡ 2 ^ k → more ≤ 64
term_few n j h i e f = omega (arith, term_is n j i e f, room-few-at n j h i)

pub sum-few : (n j : ℕ) {room : ℕ} → n ≤ 12 → j < n → room ≡ cuts_room n j → room ≤ 768
sum-few n j h i e = omega (arith, room-few n j h i)

pub room-more : (n j : ℕ) {room k more : ℕ} → suc j < n → room ≡ cuts_room n j → k ≡ min (j + 1) (n - 1 - j) → more ≡ 2 ^ k
    → room + more ≡ cuts_room n (j + 1)
unfolding cuts_room
room-more n j h e f g = ap₂ (λ (x y : ℕ). x + y) e (term_is n j h f g) ∙ ap (cuts_room n) (sym (add-one j))

-- ---- what an accepted call has passed

-- two qubits at least: 1 and 5 do not refuse
pub sizes-done : (n cap : ℕ) → (cut_refusal (0 ∷ []) n cap).0 ≡ 0 → (2 ≤ n) × (n ≤ 12)
sizes-done n cap e = let p = is-parted (0 ∷ []) n cap e in (omega (arith, p.part), p.listed.small)

pub sizes_within : (n cap : ℕ) → (cut_refusal (0 ∷ []) n cap).0 ≡ 0 → (1 ≤ n) × (n ≤ 12)
sizes_within n cap e = let z = sizes-done n cap e in (omega (arith, z.0), z.1)

pub accepted : (s : List Float) (n cap header values largest ranks marks scratch : ℕ) → (profile_tests s n cap header values largest ranks marks scratch).0 ≡ 0
    → WalkRoom s n cap header values largest ranks marks scratch
unfolding profile_tests page_lengths index_lengths
accepted s n cap header values largest ranks marks scratch e =
    let first = and_then-done (cut_refusal (0 ∷ []) n cap) _ e in
    let z = sizes_within n cap first.0 in
    let second = and_then-done (page_lengths n (length s) header values largest) _ first.1 in
    let third = and_then-done (index_lengths n ranks marks scratch) (components 0 s) second.1 in
    let a0 = and_then-done (exactly 0 (length s) (2 * 2 ^ n)) _ second.0 in
    let a1 = and_then-done (room 1 header (page_header n)) _ a0.1 in
    let a2 = and_then-done (room 2 values (page_values n)) (room 3 largest (n - 1)) a1.1 in
    let a4 = and_then-done (room 4 ranks (n - 1)) _ third.0 in
    let a5 = and_then-done (room 5 marks (page_marks n)) (room 6 scratch (page_scratch n)) a4.1 in
    record {
      sizes = (and_then-done (cut_sizes n cap) (subsystem n (0 ∷ [])) first.0).0;
      some = z.0;
      small = z.1;
      state-is = exactly-done 0 (length s) (2 * 2 ^ n) a0.0;
      allowed = third.1;
      header-fits = room-done 1 header (page_header n) a1.0;
      values-fit = room-done 2 values (page_values n) a2.0;
      largest-fits = room-done 3 largest (n - 1) a2.1;
      ranks-fit = room-done 4 ranks (n - 1) a4.0;
      marks-fit = room-done 5 marks (page_marks n) a5.0;
      scratch-fits = room-done 6 scratch (page_scratch n) a5.1;
    }

pub accepts : (s : List Float) (n cap header values largest ranks marks scratch : ℕ) (r : Answer) → paper r ≡ profile_tests s n cap header values largest ranks marks scratch
    → IfOk r (λ _. WalkRoom s n cap header values largest ranks marks scratch)
accepts s n cap header values largest ranks marks scratch (Ok x) e = accepted s n cap header values largest ranks marks scratch (ap (λ (y : Reply). y.0) (sym e))
accepts s n cap header values largest ranks marks scratch (Err x) e = tt

-- ---- every refusal before the work is below 8

then-small : (x b : Reply) → x.0 < 8 → b.0 < 8 → (and_then x b).0 < 8
then-small x b h i = after_small x.0 x b h i

room_small : (slice have need : ℕ) → (room slice have need).0 < 8
room_small slice have need = refuse-small (ltb have need) 6 slice done (omega arith) (omega arith)

sizes-small : (n cap : ℕ) → (cut_refusal (0 ∷ []) n cap).0 < 8
unfolding places_from stands
sizes-small n cap =
    let one : 1 < 8 = omega arith in
    let reg : (b : Reply) → b.0 < 8 → (refuse (ltb n 1) (1, 0) (refuse (ltb 12 n) (1, 0) b)).0 < 8
    = λ b h. refuse-small (ltb n 1) 1 0 (refuse (ltb 12 n) (1, 0) b) one (refuse-small (ltb 12 n) 1 0 b one h) in
    let listed : (places n (0 ∷ [])).0 < 8 = then-small (places_from n (0 ∷ []) 0 (0 ∷ [])) done (refuse-small (leb n 0) 2 0 done (omega arith) (omega arith)) (omega arith) in
    then-small (cut_sizes n cap) (subsystem n (0 ∷ [])) (reg _ (refuse-small (ltb (min cap 13) (n + 1)) 1 0 done one (omega arith)))
    (then-small (qubit_set n (0 ∷ [])) (refuse (eqb 1 n) (5, 0) done) (reg (places n (0 ∷ [])) listed) (refuse-small (eqb 1 n) 5 0 done (omega arith) (omega arith)))

pub tests-small : (s : List Float) (n cap header values largest ranks marks scratch : ℕ) → (profile_tests s n cap header values largest ranks marks scratch).0 < 8
unfolding profile_tests page_lengths index_lengths
tests-small s n cap header values largest ranks marks scratch =
    then-small (cut_refusal (0 ∷ []) n cap) _ (sizes-small n cap)
    (then-small (page_lengths n (length s) header values largest) _
    (then-small (exactly 0 (length s) (2 * 2 ^ n)) _ (refuse-small (not (eqb (length s) (2 * 2 ^ n))) 6 0 done (omega arith) (omega arith))
    (then-small (room 1 header (page_header n)) _ (room_small 1 header (page_header n))
    (then-small (room 2 values (page_values n)) (room 3 largest (n - 1)) (room_small 2 values (page_values n)) (room_small 3 largest (n - 1)))))
    (then-small (index_lengths n ranks marks scratch) (components 0 s)
    (then-small (room 4 ranks (n - 1)) _ (room_small 4 ranks (n - 1))
    (then-small (room 5 marks (page_marks n)) (room 6 scratch (page_scratch n)) (room_small 5 marks (page_marks n)) (room_small 6 scratch (page_scratch n))))
    (components-small 0 s)))
