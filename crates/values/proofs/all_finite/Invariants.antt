-- `values::all_finite` meets its contract. Where the scaled sum is finite every number is finite. The loop's invariant: what is left decides with what was seen. Assumes nothing.
use mathlib.Core.Path.{◌≡◌}
use mathlib.Core.Bool.{◌&&◌}
use lib.ListN.{drop}
use Rattle.values.specs.Lists.{all_finite}
use Rattle.values.proofs.all_finite.Given as goal

abbrev pub invariant-loop-x : goal.invariant-loop-x
invariant-loop-x l = all_finite l.s ≡ (l.every && all_finite (drop l.x-index l.s))
