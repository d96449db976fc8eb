-- `svd_columns::direction_column` meets its contract. The invariant: the first r cells are written. Assumes nothing.
use mathlib.Core.Path.{◌≡◌}
use Prim.Native.Nat.{◌+◌}
use Rattle.complex.specs.Cells.{written}
use Rattle.complex.specs.Planes.{plane_at}
use Rattle.svd_columns.specs.Columns.{direction_of}
use Rattle.svd_columns.proofs.direction_column.Given as goal

abbrev pub invariant-loop-r : goal.invariant-loop-r
invariant-loop-r l = l.out ≡ written l.r (λ k. direction_of l.wide l.norm (plane_at l.work l.c (l.at + k))) l.initial.out
