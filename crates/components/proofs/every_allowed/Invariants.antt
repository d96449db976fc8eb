-- `components::every_allowed` meets its contract. Where the scaled sum is finite every number is allowed. The loop's invariant: what is left decides with what was seen. Assumes nothing.
use mathlib.Core.Path.{◌≡◌}
use mathlib.Core.Bool.{◌&&◌}
use lib.ListN.{drop}
use Rattle.components.specs.Every.{every_allowed}
use Rattle.components.proofs.every_allowed.Given as goal

abbrev pub invariant-loop-x : goal.invariant-loop-x
invariant-loop-x l = every_allowed l.s ≡ (l.every && every_allowed (drop l.x-index l.s))
