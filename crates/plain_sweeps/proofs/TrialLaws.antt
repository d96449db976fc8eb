-- Laws of what `specs/Trial.antt` defines. Assumes nothing.
use mathlib.Core.Path.{◌≡◌, refl, ap, subst, ◌∙◌}
use mathlib.Core.Bool.{true, false}
use Rattle.std.proofs.Common.{None, Some}
use mathlib.Core.List.{List, ◌++◌}
use Prim.Native.Nat.{ℕ, zero, suc, ◌*◌}
use lib.ListN.{length, take, drop, length-set}
use lib.Seq.{take_at, drop_at}
use lib.Ieee.{Float}
use Rattle.complex.specs.Zeros.{zeros}
use Rattle.complex.proofs.ZerosLaws.{length-zeros}
use Rattle.clean_numbers.specs.Clean.{EachClean}
use Rattle.clean_numbers.specs.Copies.{CopiedBehind}
use Rattle.svd_load.specs.Loading.{unit_to, unit_planes}
use Rattle.svd_pair.specs.Turns.{Making}
use Rattle.svd_pair.specs.Plain.{plain, making}
use Rattle.sweeps.specs.declared.Sweeps.{Sweeps}
use Rattle.sweeps.specs.Sweeping.{State, state}
use Rattle.svd_sweeps.specs.Sweeping.{settled_with, settled}
use Rattle.svd_sweeps.proofs.SweepingLaws.{settled-exact}
use Rattle.plain_sweeps.specs.Trial.{Swept, Tried}
use Rattle.plain_sweeps.proofs.Theorems.{plain-is-exact}

-- ---- the unit matrix

unit-to : (n k : ℕ) (xs : List Float) → length (unit_to n xs k) ≡ length xs
unfolding unit_to
unit-to n zero xs = refl
unit-to n (suc k) xs = length-set (unit_to n xs k) _ _ ∙ unit-to n k xs

pub unit-length : (n : ℕ) → length (unit_planes n) ≡ 2 * (n * n)
unfolding unit_planes
unit-length n = unit-to n n (zeros (2 * (n * n))) ∙ length-zeros (2 * (n * n))

-- ---- the sweeps of the front of a list

-- from the unit matrix that was written
pub unit-start : (g : Making) (rows side : ℕ) (work v₀ : List Float) {s : State} → v₀ ≡ unit_planes side → s ≡ settled_with g rows side work v₀
    → s ≡ settled_with g rows side work (unit_planes side)
unit-start g rows side work v₀ e h = rw e at h

pub swept_same : {rows side : ℕ} {work work' : List Float} {s : Sweeps} {scratch v : List Float} → work ≡ work' → Swept rows side work s scratch v → Swept rows side work' s scratch v
swept_same {rows} {side} {s = s} {scratch = scratch} {v = v} e = subst (λ (x : List Float). Swept rows side x s scratch v) e

pub swept-exactly : (rows side : ℕ) (front rest v : List Float) (s : Sweeps) {work : List Float} → length front ≡ 2 * (side * rows)
    → state front v s ≡ settled_with (making false) rows side work (unit_planes side) → Swept rows side work s (front ++ rest) v
swept-exactly rows side front rest v s {work} l h =
    record { is = ap (λ (x : List Float). state x v s) (take_at front rest (2 * (side * rows)) l) ∙ h ∙ settled-exact rows side work (unit_planes side) }

-- what is kept behind the front
behind : (w : ℕ) (old copied front : List Float) → CopiedBehind w old copied → length front ≡ w → take w (drop w (front ++ drop w copied)) ≡ take w old
behind w old copied front h l = ap (take w) (drop_at front (drop w copied) w l) ∙ h.behind

pub tried-unclean : (rows side : ℕ) (old copied front v : List Float) → CopiedBehind (2 * (side * rows)) old copied → length front ≡ 2 * (side * rows)
    → Tried rows side (take (2 * (side * rows)) old) None (front ++ drop (2 * (side * rows)) copied) v
tried-unclean rows side old copied front v h l = record { done = tt; kept = λ _. behind (2 * (side * rows)) old copied front h l }

-- a clean trial is the sweeps
trial-is : (rows side : ℕ) (work front v : List Float) (s : Sweeps) → length work ≡ 2 * (side * rows)
    → state front v s ≡ settled_with (making true) rows side work (unit_planes side) → EachClean front → EachClean v
    → state front v s ≡ settled rows side work (unit_planes side)
unfolding making
trial-is rows side work front v s l h f g =
    let w : front ≡ (settled_with plain rows side work (unit_planes side)).work = ap (λ (x : State). x.work) h in
    let u : v ≡ (settled_with plain rows side work (unit_planes side)).v = ap (λ (x : State). x.v) h in
    h ∙ plain-is-exact rows side work (unit_planes side) l (unit-length side) (subst EachClean w f) (subst EachClean u g)

pub tried-clean : (rows side : ℕ) (old copied front v : List Float) (s : Sweeps) → length (take (2 * (side * rows)) copied) ≡ 2 * (side * rows)
    → CopiedBehind (2 * (side * rows)) old copied → length front ≡ 2 * (side * rows)
    → state front v s ≡ settled_with (making true) rows side (take (2 * (side * rows)) copied) (unit_planes side)
    → EachClean (take (2 * (side * rows)) (front ++ drop (2 * (side * rows)) copied)) → EachClean v
    → Tried rows side (take (2 * (side * rows)) old) (Some s) (front ++ drop (2 * (side * rows)) copied) v
tried-clean rows side old copied front v s lc c l h f g =
    let w = 2 * (side * rows) in
    let t : take w (front ++ drop w copied) ≡ front = take_at front (drop w copied) w l in
    record {
      done = record {
        is = ap (λ (x : List Float). state x v s) t ∙ trial-is rows side (take w copied) front v s lc h (subst EachClean t f) g
            ∙ ap (λ (x : List Float). settled rows side x (unit_planes side)) c.front;
      };
      kept = λ e. cc;
    }
