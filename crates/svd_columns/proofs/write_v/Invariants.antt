-- `svd_columns::write_v` meets its contract. The invariant: the first j columns are written. Assumes nothing.
use mathlib.Core.Path.{◌≡◌}
use Prim.Native.Nat.{◌+◌, ◌*◌}
use lib.ListN.{get_or}
use Rattle.complex.specs.Cells.{written}
use Rattle.complex.specs.Planes.{plane_at}
use Rattle.stable_order.specs.Places.{places_in}
use Rattle.svd_columns.specs.Columns.{v_cell, in_columns}
use Rattle.svd_columns.proofs.write_v.Given as goal

abbrev pub invariant-loop-j : goal.invariant-loop-j
invariant-loop-j l = l.out ≡ written (l.j * l.side) (in_columns l.side (λ k r. v_cell l.wide (plane_at l.v (l.side * l.side) (get_or (places_in l.order) k 0 * l.side + r)))) l.initial.out
