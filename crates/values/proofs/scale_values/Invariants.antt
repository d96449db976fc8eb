-- `values::scale_values` meets its contract. The loop's invariant: scaling the values that are left gives the same list. Assumes nothing.
use mathlib.Core.Path.{◌≡◌}
use mathlib.Core.List.{◌++◌}
use lib.ListN.{drop, take}
use Rattle.values.specs.Lists.{scaled_by}
use Rattle.values.proofs.scale_values.Given as goal

abbrev pub invariant-loop-x : goal.invariant-loop-x
invariant-loop-x l = take l.x-index l.s ++ scaled_by l.k (drop l.x-index l.s) ≡ scaled_by l.k l.initial.s
