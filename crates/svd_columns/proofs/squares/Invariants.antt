-- `svd_columns::squares` meets its contract. The invariant: the sum so far is that of the first r rows. Assumes nothing.
use mathlib.Core.Path.{◌≡◌}
use Rattle.complex.specs.Squares.{squares_to}
use Rattle.svd_columns.specs.Columns.{plane_from}
use Rattle.svd_columns.proofs.squares.Given as goal

abbrev pub invariant-loop-r : goal.invariant-loop-r
invariant-loop-r l = l.sum ≡ squares_to (plane_from l.work l.c l.at) l.r
