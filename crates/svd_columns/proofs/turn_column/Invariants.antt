-- `svd_columns::turn_column` meets its contract. The invariant: the first r cells are written. Assumes nothing.
use mathlib.Core.Path.{◌≡◌}
use Prim.Native.Nat.{◌+◌}
use Rattle.complex.specs.Cells.{written}
use Rattle.complex.specs.Planes.{plane_at}
use Rattle.svd_columns.specs.Columns.{v_cell}
use Rattle.svd_columns.proofs.turn_column.Given as goal

abbrev pub invariant-loop-r : goal.invariant-loop-r
invariant-loop-r l = l.out ≡ written l.r (λ k. v_cell l.wide (plane_at l.v l.c (l.at + k))) l.initial.out
