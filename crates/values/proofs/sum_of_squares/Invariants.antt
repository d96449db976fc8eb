-- `values::sum_of_squares` meets its contract. The loop's invariant: adding the squares that are left gives the same total. Assumes nothing.
use mathlib.Core.Path.{◌≡◌}
use lib.ListN.{drop}
use Rattle.values.specs.Lists.{squares_from, minus_zero}
use Rattle.values.proofs.sum_of_squares.Given as goal

abbrev pub invariant-loop-x : goal.invariant-loop-x
invariant-loop-x l = squares_from minus_zero l.s ≡ squares_from l.total (drop l.x-index l.s)
