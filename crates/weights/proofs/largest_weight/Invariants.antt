-- `weights::largest_weight` meets its contract. The loop's invariant: the weights that are left give the same largest. Assumes nothing.
use mathlib.Core.Path.{◌≡◌}
use lib.ListN.{drop}
use Rattle.complex.specs.Zeros.{zero_float}
use Rattle.weights.specs.Weights.{largest_from}
use Rattle.weights.proofs.largest_weight.Given as goal

abbrev pub invariant-loop-x : goal.invariant-loop-x
invariant-loop-x l = largest_from zero_float l.s ≡ largest_from l.largest (drop l.x-index l.s)
