-- No V changes the work matrix or the counts: the sweeps decide by the work matrix alone. Assumes nothing.
use mathlib.Core.Path.{◌≡◌, refl, ap}
use mathlib.Core.Bool.{Bool, true, false, cond}
use mathlib.Core.List.{List}
use Prim.Native.Nat.{ℕ, zero, suc, ◌+◌, ◌-◌}
use lib.Ieee.{Float}
use Rattle.sweeps.specs.declared.Sweeps.{Sweeps}
use Rattle.sweeps.specs.Sweeping.{State, state, begin, no_sweeps, Pairing, pair_by, pair_step, pairs_to, columns_to, sweep_of, sweeps_to, settled_by}

-- the same work matrix and the same counts
pub record Alike (s t : State) : Type 0 where
  pub work : s.work ≡ t.work
  pub sweeps : s.sweeps ≡ t.sweeps

pair-alike : (f : Pairing) (p q : ℕ) {s t : State} → Alike s t → Alike (pair_step f p q s) (pair_step f p q t)
unfolding pair_step pair_by
pair-alike f p q {s} {t} h =
    record { work = ap (λ (w : List Float). f.on_work (f.decide p q w) p q w) h.work; sweeps = rw (h.work, h.sweeps) }

pairs-alike : (f : Pairing) (p k : ℕ) {s t : State} → Alike s t → Alike (pairs_to f p k s) (pairs_to f p k t)
unfolding pairs_to
pairs-alike f p zero h = h
pairs-alike f p (suc k) h = pair-alike f p (p + 1 + k) (pairs-alike f p k h)

columns-alike : (f : Pairing) (n p : ℕ) {s t : State} → Alike s t → Alike (columns_to f n p s) (columns_to f n p t)
unfolding columns_to
columns-alike f n zero h = h
columns-alike f n (suc p) h = pairs-alike f p (n - (p + 1)) (columns-alike f n p h)

sweep-alike : (f : List Float → Pairing) (n : ℕ) {s t : State} → Alike s t → Alike (sweep_of f n s) (sweep_of f n t)
unfolding sweep_of
sweep-alike f n {s} {t} h =
    rw h.work
    (columns-alike (f t.work) n n {s = state t.work s.v (begin s.sweeps)} {t = state t.work t.v (begin t.sweeps)}
    (record { work = refl; sweeps = ap begin h.sweeps }))

cond_both : (b : Bool) {s t u v : State} → Alike s t → Alike u v → Alike (cond b s u) (cond b t v)
cond_both true h i = h
cond_both false h i = i

cond-alike : {b b' : Bool} {s t u v : State} → b ≡ b' → Alike s t → Alike u v → Alike (cond b s u) (cond b' t v)
cond-alike {b} {b'} e h i = rw e (cond_both b' h i)

sweeps-alike : (f : List Float → Pairing) (n k : ℕ) (s t : State) → Alike s t → Alike (sweeps_to f n k s) (sweeps_to f n k t)
unfolding sweeps_to
sweeps-alike f n zero s t h = h
sweeps-alike f n (suc k) s t h =
    let a = sweep-alike f n h in
    cond-alike (ap (λ (x : Sweeps). x.quiet) a.sweeps) a (sweeps-alike f n k (sweep_of f n s) (sweep_of f n t) a)

pub settled-alike : (f : List Float → Pairing) (cap n : ℕ) (work v v' : List Float) → Alike (settled_by f cap n work v) (settled_by f cap n work v')
unfolding settled_by
settled-alike f cap n work v v' = sweeps-alike f n cap (state work v no_sweeps) (state work v' no_sweeps) (record { work = refl; sweeps = refl })
