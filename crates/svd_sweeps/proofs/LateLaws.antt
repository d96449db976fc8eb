-- Laws of what `specs/Late.antt` defines. Assumes nothing.
use mathlib.Core.Path.{◌≡◌, refl, sym, ap, ◌∙◌}
use mathlib.Core.List.{List}
use Prim.Native.Nat.{ℕ, ◌*◌, ◌<◌}
use lib.Ieee.{Float}
use Rattle.svd_gram.specs.Gram.{gram_to}
use Rattle.svd_pair.specs.Decisions.{Decision}
use Rattle.std.proofs.Common.{None, Some}
use Rattle.svd_pair.specs.Decisions.{decision_of}
use Rattle.svd_pair.specs.Turns.{Making, turn_factors, turn_rows}
use Rattle.svd_pair.proofs.TurnsLaws.{applied-left, applied-turn}
use Rattle.sweeps.specs.declared.Sweeps.{Sweeps}
use Rattle.sweeps.specs.Sweeping.{State, state, counted, begin, no_sweeps, pair_step}
use Rattle.svd_sweeps.specs.Sweeping.{svd_pairing}
use Rattle.svd_sweeps.specs.declared.Late.{Late}
use Rattle.svd_sweeps.specs.declared.Waited.{Waited}
use Rattle.svd_pair.specs.declared.Turn.{Turn}
use Rattle.svd_sweeps.specs.Late.{made_late, caught_up, Waiting, late_state, begun_late, none_late}
use Rattle.svd_sweeps.proofs.SweepingLaws.{pair_made}

-- ---- V that waits, and V that does not

pub caught-waiting : (g : Making) (n : ℕ) (w : Late) (v : List Float) {t : Waited} {u : List Float} → w.waiting ≡ Some t
    → u ≡ turn_rows g (turn_factors t.turn.cosine t.turn.sine t.turn.phase) (n * n) (t.p * n) (t.q * n) n v → u ≡ caught_up g n w v
unfolding made_late
caught-waiting g n w v e h = rw e h

pub caught-none : (g : Making) (n : ℕ) (w : Late) (v : List Float) → w.waiting ≡ None → v ≡ caught_up g n w v
unfolding made_late
caught-none g n w v e = rw e refl

-- the columns of the turn that V waits for
pub waiting-columns : (n : ℕ) (w : Late) (t : Waited) → Waiting n w → w.waiting ≡ Some t → (t.p < t.q) × (t.q < n)
waiting-columns n w t h e = (rw e at h.rising, rw e at h.within)

-- V that has caught up is the state's
pub caught-state : (g : Making) (n : ℕ) (work v : List Float) (w : Late) {u : List Float} {t : State} → u ≡ caught_up g n w v → late_state g n work v w ≡ t → state work u w.s ≡ t
caught-state g n work v w e h = ap (λ (x : List Float). state work x w.s) e ∙ h

pub none-waits : (n : ℕ) (w : Late) → w ≡ none_late → Waiting n w
none-waits n w e = rw e record { rising = tt; within = tt }

pub none-state : (g : Making) (n : ℕ) (work v : List Float) {w : Late} → w ≡ none_late → late_state g n work v w ≡ state work v no_sweeps
unfolding made_late
none-state g n work v e = rw e refl

pub begun-waits : (n : ℕ) (w : Late) {r : Late} → r ≡ begun_late w → Waiting n w → Waiting n r
begun-waits n w e h = rw e record { rising = h.rising; within = h.within }

-- a sweep that begins leaves V as it is
pub begun-state : (g : Making) (n : ℕ) (work v : List Float) (w : Late) {r : Late} → r ≡ begun_late w
    → late_state g n work v r ≡ state work (caught_up g n w v) (begin w.s)
unfolding made_late
begun-state g n work v w e = rw e refl

-- ---- the pair

-- left: nothing is done
pub pair_left : (g : Making) (m n p q : ℕ) (work v : List Float) (w : Late) (d : Decision)
    → d ≡ decision_of (gram_to work (n * m) (p * m) (q * m) m) → d ≡ None
    → late_state g n work v w ≡ pair_step (svd_pairing g m n) p q (late_state g n work v w)
unfolding counted
pair_left g m n p q work v w d e l =
    pair_made g m n p q (late_state g n work v w) d work (caught_up g n w v) w.s e (applied-left g _ _ _ _ _ l) (applied-left g _ _ _ _ _ l) (rw l refl)

-- turned: V, which had caught up, waits for this turn
pub pair-turned : (g : Making) (m n p q : ℕ) (work v : List Float) (w : Late) (d : Decision) {t : Turn} {work' v' : List Float} {s : Sweeps}
    → d ≡ decision_of (gram_to work (n * m) (p * m) (q * m) m) → d ≡ Some t
    → v' ≡ caught_up g n w v → work' ≡ turn_rows g (turn_factors t.cosine t.sine t.phase) (n * m) (p * m) (q * m) m work → s ≡ counted (Some t) w.s
    → late_state g n work' v' (record { s = s; waiting = Some (record { p = p; q = q; turn = t }) })
    ≡ pair_step (svd_pairing g m n) p q (late_state g n work v w)
unfolding made_late
pair-turned g m n p q work v w d {v' = v'} e t f h i =
    pair_made g m n p q (late_state g n work v w) d _ _ _ e (applied-turn g _ _ _ _ _ t h) (applied-turn g _ _ _ _ _ t (ap (turn_rows g _ (n * n) (p * n) (q * n) n) f)) (i ∙ ap (λ (x : Decision). counted x w.s) (sym t))
