-- The ceiling on turned pairs (02, C-17), over the cap and over what is done with a pair. Assumes nothing.
use mathlib.Core.Path.{◌≡◌, refl, ap, ◌∙◌}
use Prim.Native.Nat.{ℕ, zero, suc, ◌+◌, ◌-◌, ◌*◌, ◌/◌, ◌≤◌}
use native.Mathlib.Numerals.{add-one}
use native.Mathlib.Nat.{suc-mul, mul-suc, mul-le-mul_right}
use native.Mathlib.Omega.{arith}
use mathlib.Core.List.{List}
use mathlib.Core.Bool.{Bool, true, false, cond, false≢true}
use lib.Ieee.{Float}
use Rattle.svd_pair.specs.Decisions.{Decision}
use Rattle.std.proofs.Common.{None, Some}
use Rattle.sweeps.specs.declared.Sweeps.{Sweeps}
use Rattle.sweeps.specs.Sweeping.{State, state, counted, begin, no_sweeps, Pairing, pair_by, pair_step, pairs_to, columns_to, sweep_of, sweeps_to, settled_by}
use Rattle.sweeps.proofs.Counts.{Within, pairs_below, sweep-after}

-- the pairs of n columns
abbrev pub pairs_of : ℕ → ℕ
pairs_of n = n * (n - 1) / 2

-- at most `cap` sweeps' worth of turned pairs, and where the last sweep was quiet at most those of the sweeps before it
pub record Ceiling (cap n : ℕ) (s : Sweeps) : Type 0 where
  pub most : s.turned ≤ cap * pairs_of n
  pub quiet : s.quiet ≡ true → s.turned ≤ (s.begun - 1) * pairs_of n

-- ---- all pairs of n columns are n * (n - 1) / 2

pairs-doubled : (n p : ℕ) → p ≤ n → 2 * pairs_below n p + p * p + p ≡ 2 * (p * n)
unfolding pairs_below
pairs-doubled n zero h = omega arith
pairs-doubled n (suc p) h = omega (arith, pairs-doubled n p (omega arith), suc-mul p n, suc-mul p (suc p), mul-suc p p)

pairs-all : (n : ℕ) → 2 * pairs_below n n + n ≡ n * n
pairs-all n = omega (arith, pairs-doubled n n (omega arith))

pub pairs-half : (n : ℕ) → pairs_below n n ≡ pairs_of n
pairs-half zero = omega (arith, pairs-all 0)
pairs-half (suc n) =
    let one_less : suc n - 1 ≡ n = omega arith in
    let e : suc n * (suc n - 1) ≡ suc n * n = ap (λ (z : ℕ). suc n * z) one_less in
    omega (arith, pairs-all (suc n), e, mul-suc (suc n) n)

-- ---- at most one turned pair for each pair of columns in each sweep begun

record Few (n : ℕ) (s : Sweeps) : Type 0 where
  pub few : s.turned ≤ s.begun * pairs_of n

sweep-within : (f : List Float → Pairing) (n : ℕ) (s : State) → Within (begin s.sweeps) (sweep_of f n s).sweeps (pairs_of n)
sweep-within f n s = rw (← pairs-half n) (sweep-after f n s {t = sweep_of f n s} refl)

sweep-few : (f : List Float → Pairing) (n : ℕ) (s : State) → Few n s.sweeps → Few n (sweep_of f n s).sweeps
sweep-few f n s h =
    let w = sweep-within f n s in
    record { few = rw (w.begun, add-one, suc-mul) (omega arith) }

-- what holds of both holds of what a test picks
either : (P : State → Type 0) (b : Bool) (s t : State) → P s → P t → P (cond b s t)
either P true s t h i = h
either P false s t h i = i

sweeps-few : (f : List Float → Pairing) (n k : ℕ) (s : State) → Few n s.sweeps → Few n (sweeps_to f n k s).sweeps
unfolding sweeps_to
sweeps-few f n zero s h = h
sweeps-few f n (suc k) s h =
    let t = sweep_of f n s in
    let i = sweep-few f n s h in
    either (λ (u : State). Few n u.sweeps) t.sweeps.quiet t (sweeps_to f n k t) i (sweeps-few f n k t i)

-- at most k sweeps more
sweeps-begun : (f : List Float → Pairing) (n k : ℕ) (s : State) → (sweeps_to f n k s).sweeps.begun ≤ s.sweeps.begun + k
unfolding sweeps_to
sweeps-begun f n zero s = omega arith
sweeps-begun f n (suc k) s =
    let t = sweep_of f n s in
    let w = sweep-within f n s in
    either (λ (u : State). u.sweeps.begun ≤ s.sweeps.begun + suc k) t.sweeps.quiet t (sweeps_to f n k t) (omega arith) (omega (arith, sweeps-begun f n k t))

-- ---- a sweep that is quiet at its end changed no count after its beginning

counted-still : (d : Decision) (s : Sweeps) → (counted d s).quiet ≡ true → counted d s ≡ s
unfolding counted
counted-still None s h = refl
counted-still (Some t) s h = absurd (false≢true h)

quiet-before : {s t : Sweeps} → t ≡ s → t.quiet ≡ true → s.quiet ≡ true
quiet-before e h = rw e at h

pair-still : (f : Pairing) (p q : ℕ) (s : State) → (pair_step f p q s).sweeps.quiet ≡ true → (pair_step f p q s).sweeps ≡ s.sweeps
unfolding pair_step pair_by
pair-still f p q s h = counted-still (f.decide p q s.work) s.sweeps h

pairs-still : (f : Pairing) (p k : ℕ) (s : State) → (pairs_to f p k s).sweeps.quiet ≡ true → (pairs_to f p k s).sweeps ≡ s.sweeps
unfolding pairs_to
pairs-still f p zero s h = refl
pairs-still f p (suc k) s h =
    let e = pair-still f p (p + 1 + k) (pairs_to f p k s) h in
    e ∙ pairs-still f p k s (quiet-before e h)

columns-still : (f : Pairing) (n p : ℕ) (s : State) → (columns_to f n p s).sweeps.quiet ≡ true → (columns_to f n p s).sweeps ≡ s.sweeps
unfolding columns_to
columns-still f n zero s h = refl
columns-still f n (suc p) s h =
    let e = pairs-still f p (n - (p + 1)) (columns_to f n p s) h in
    e ∙ columns-still f n p s (quiet-before e h)

sweep-still : (f : List Float → Pairing) (n : ℕ) (s : State) → (sweep_of f n s).sweeps.quiet ≡ true → (sweep_of f n s).sweeps ≡ begin s.sweeps
unfolding sweep_of
sweep-still f n s h = columns-still (f s.work) n n (state s.work s.v (begin s.sweeps)) h

-- where the last sweep was quiet, the sweeps before it turned all that was turned
record Before (n : ℕ) (s : Sweeps) : Type 0 where
  pub quiet : s.quiet ≡ true → s.turned ≤ (s.begun - 1) * pairs_of n

begun-less : (n : ℕ) {s t : Sweeps} → Few n s → t ≡ begin s → t.turned ≤ (t.begun - 1) * pairs_of n
begun-less n {s} {t} f e =
    let b : t.begun - 1 ≡ s.begun = omega (arith, ap (λ (x : Sweeps). x.begun) e) in
    rw b (omega (arith, f.few, ap (λ (x : Sweeps). x.turned) e))

sweep-before : (f : List Float → Pairing) (n : ℕ) (s : State) → Few n s.sweeps → Before n (sweep_of f n s).sweeps
sweep-before f n s g = record { quiet = λ h. begun-less n g (sweep-still f n s h) }

sweeps-before : (f : List Float → Pairing) (n k : ℕ) (s : State) → Few n s.sweeps → Before n s.sweeps → Before n (sweeps_to f n k s).sweeps
unfolding sweeps_to
sweeps-before f n zero s g c = c
sweeps-before f n (suc k) s g c =
    let t = sweep_of f n s in
    let d = sweep-before f n s g in
    either (λ (u : State). Before n u.sweeps) t.sweeps.quiet t (sweeps_to f n k t) d (sweeps-before f n k t (sweep-few f n s g) d)

-- ---- what the theorems cite

start-few : (n : ℕ) → Few n no_sweeps
start-few n = record { few = omega arith }

pub settled-within : (f : List Float → Pairing) (cap n : ℕ) (work v : List Float) → Ceiling cap n (settled_by f cap n work v).sweeps
unfolding settled_by
settled-within f cap n work v =
    let s = state work v no_sweeps in
    let few = sweeps-few f n cap s (start-few n) in
    record {
      most = omega (arith, few.few, mul-le-mul_right (pairs_of n) (sweeps-begun f n cap s));
      quiet = (sweeps-before f n cap s (start-few n) (record { quiet = λ h. absurd (false≢true h) })).quiet;
    }

-- where nothing was begun nothing was turned
pub none_within : (cap n : ℕ) → Ceiling cap n no_sweeps
none_within cap n = record { most = omega arith; quiet = λ h. absurd (false≢true h) }
