-- The sweeps that an answer comes with. Definitions only.
use Rattle.std.specs.Prelude.{Result}
use Rattle.answers.specs.declared.Refusal.{Refusal}
use Rattle.answers.specs.Paper.{paper, if_done}
use Rattle.sweeps.specs.declared.Sweeps.{Sweeps}
use Rattle.sweeps.specs.Sweeping.{no_sweeps}
use Rattle.factored.specs.declared.Counted.{Counted}

-- on 0 those of the work; on every other answer, 8 and 9 included, none begun, not quiet, and no pair turned
abbrev pub kept_sweeps : {A : Type 0} → Result A Refusal → Sweeps → Sweeps
kept_sweeps answer sweeps = if_done (paper answer).0 sweeps no_sweeps

-- no value, no sweep
abbrev pub no_count : Counted
no_count = record { count = 0; sweeps = no_sweeps }
