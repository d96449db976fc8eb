use mathlib.Core.Path.{◌≡◌}
use Rattle.profile_walk.specs.Page.{cuts_room}
use Rattle.profile_checks.proofs.values_room.Given as goal

abbrev pub invariant-loop-j : goal.invariant-loop-j
invariant-loop-j l = l.room ≡ cuts_room l.n l.j
