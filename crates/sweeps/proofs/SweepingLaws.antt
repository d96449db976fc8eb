-- Laws of what `specs/Sweeping.antt` defines. Assumes nothing.
use mathlib.Core.Path.{◌≡◌, refl, sym, subst, ◌∙◌}
use mathlib.Core.Bool.{true, false}
use mathlib.Core.List.{List, [], ◌∷◌}
use Prim.Native.Nat.{ℕ, suc, ◌+◌, ◌-◌, ◌<◌, ◌≤◌}
use native.Mathlib.Numerals.{add-one}
use native.Mathlib.Omega.{arith}
use lib.Ieee.{Float}
use lib.ListN.{length}
use Rattle.complex.proofs.Loops.{cond_yes, cond_no}
use Rattle.svd_pair.specs.Decisions.{Decision}
use Rattle.sweeps.specs.declared.Sweeps.{Sweeps}
use Rattle.sweeps.specs.Sweeping.{State, state, counted, begin, no_sweeps, Pairing, pair_by, pair_step, pairs_to, columns_to, sweep_of, sweeps_to, settled_by}

-- ---- the state

-- an empty V may be called so
pub state-alone : {work v : List Float} {s : Sweeps} {t : State} → length v ≡ 0 → state work v s ≡ t → state work [] s ≡ t
state-alone {v = []} h e = e
state-alone {v = x ∷ v} h e = absurd (omega arith)

-- ---- the laws that the proofs cite

pub pair_made : (f : Pairing) (p q : ℕ) (s : State) (d : Decision) (work v : List Float) (t : Sweeps)
    → d ≡ f.decide p q s.work → work ≡ f.on_work d p q s.work → v ≡ f.on_v d p q s.v → t ≡ counted d s.sweeps
    → state work v t ≡ pair_step f p q s
unfolding pair_step pair_by
pair_made f p q s d work v t e g h i = rw (← e, g, h, i)

-- no pair yet, and one more
pub pairs-none : (f : Pairing) (p : ℕ) (s : State) → s ≡ pairs_to f p (p + 1 - (p + 1)) s
unfolding pairs_to
pairs-none f p s =
    let e : p + 1 - (p + 1) ≡ 0 = omega arith in
    rw e

pub pairs-more : (f : Pairing) (p q : ℕ) (s : State) {t u : State} → p < q
    → t ≡ pairs_to f p (q - (p + 1)) s → u ≡ pair_step f p q t → u ≡ pairs_to f p (q + 1 - (p + 1)) s
unfolding pairs_to
pairs-more f p q s h i j =
    let e : q + 1 - (p + 1) ≡ suc (q - (p + 1)) = omega arith in
    let g : p + 1 + (q - (p + 1)) ≡ q = omega arith in
    rw (e, g, ← i) j

pub columns-none : (f : Pairing) (n : ℕ) (s : State) → s ≡ columns_to f n 0 s
unfolding columns_to
columns-none f n s = refl

pub columns-more : (f : Pairing) (n p : ℕ) (s : State) {t u : State}
    → t ≡ columns_to f n p s → u ≡ pairs_to f p (n - (p + 1)) t → u ≡ columns_to f n (p + 1) s
unfolding columns_to
columns-more f n p s {u = u} i j = subst (λ (k : ℕ). u ≡ columns_to f n k s) (sym (add-one p)) (rw i at j)

pub sweep-made : (f : List Float → Pairing) (n : ℕ) (s : State) {g : Pairing} {t : State} → g ≡ f s.work
    → t ≡ columns_to g n n (state s.work s.v (begin s.sweeps)) → t ≡ sweep_of f n s
unfolding sweep_of
sweep-made f n s e h = rw (← e) h

pub settled-start : (f : List Float → Pairing) (cap n : ℕ) (work v : List Float) → sweeps_to f n cap (state work v no_sweeps) ≡ settled_by f cap n work v
unfolding settled_by
settled-start f cap n work v = refl

-- what is left after k of x sweeps gives the same end: where nothing is left, after one more that turned something, and after a quiet one
pub sweeps-done : (f : List Float → Pairing) (n x k : ℕ) {s e : State} → x ≤ k → sweeps_to f n (x - k) s ≡ e → s ≡ e
unfolding sweeps_to
sweeps-done f n x k h i =
    let j : x - k ≡ 0 = omega arith in
    rw j at i

pub sweeps-more : (f : List Float → Pairing) (n x k : ℕ) (s : State) {t e : State} → k < x → sweeps_to f n (x - k) s ≡ e → t ≡ sweep_of f n s
    → t.sweeps.quiet ≡ false → sweeps_to f n (x - (k + 1)) t ≡ e
unfolding sweeps_to
sweeps-more f n x k s {t} h i g l =
    let j : x - k ≡ suc (x - (k + 1)) = omega arith in
    sym (cond_no t (sweeps_to f n (x - (k + 1)) t) l) ∙ rw (j, ← g) at i

pub sweeps-quiet : (f : List Float → Pairing) (n x k : ℕ) (s : State) {t e : State} → k < x → sweeps_to f n (x - k) s ≡ e → t ≡ sweep_of f n s
    → t.sweeps.quiet ≡ true → t ≡ e
unfolding sweeps_to
sweeps-quiet f n x k s {t} h i g l =
    let j : x - k ≡ suc (x - (k + 1)) = omega arith in
    sym (cond_yes t (sweeps_to f n (x - (k + 1)) t) l) ∙ rw (j, ← g) at i
