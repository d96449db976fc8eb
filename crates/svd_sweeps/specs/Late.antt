-- V turned one decision late: what it is once it has caught up. Definitions only.
use Rattle.std.specs.Prelude.{Option, None, Some, IfSome, List, ℕ, ◌*◌, ◌<◌, Float}
use Rattle.svd_pair.specs.Turns.{Making, turn_factors, turn_rows}
use Rattle.sweeps.specs.Sweeping.{State, state, begin, no_sweeps}
use Rattle.svd_sweeps.specs.declared.Late.{Late}
use Rattle.svd_sweeps.specs.declared.Waited.{Waited}

-- V of n columns once a turn that it waits for, if any, is made
unfoldable pub made_late : Making → ℕ → Option Waited → List Float → List Float
made_late g n None v = v
made_late g n (Some t) v = turn_rows g (turn_factors t.turn.cosine t.turn.sine t.turn.phase) (n * n) (t.p * n) (t.q * n) n v

-- V of n columns once the turn that it waits for is made
abbrev pub caught_up : Making → ℕ → Late → List Float → List Float
caught_up g n w v = made_late g n w.waiting v

-- where V waits, it is for a turn of two of its columns
pub record Waiting (n : ℕ) (w : Late) : Type 0 where
  pub rising : IfSome w.waiting (λ t. t.p < t.q)
  pub within : IfSome w.waiting (λ t. t.q < n)

-- the state that the sweeps speak of
abbrev pub late_state : Making → ℕ → List Float → List Float → Late → State
late_state g n work v w = state work (caught_up g n w v) w.s

-- a sweep is counted as it begins; V waits as before
abbrev pub begun_late : Late → Late
begun_late w = record { s = begin w.s; waiting = w.waiting }

-- before the first sweep V waits for nothing
abbrev pub none_late : Late
none_late = record { s = no_sweeps; waiting = None }
