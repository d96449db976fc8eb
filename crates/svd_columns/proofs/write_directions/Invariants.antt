-- `svd_columns::write_directions` meets its contract. The invariant: the first j columns are written. Assumes nothing.
use mathlib.Core.Path.{◌≡◌}
use Prim.Native.Nat.{◌+◌, ◌*◌}
use lib.ListN.{get_or}
use lib.Ieee.{nan}
use Rattle.complex.specs.Cells.{written}
use Rattle.complex.specs.Planes.{plane_at}
use Rattle.stable_order.specs.Places.{places_in}
use Rattle.svd_columns.specs.Columns.{direction_of, in_columns}
use Rattle.svd_columns.proofs.write_directions.Given as goal

abbrev pub invariant-loop-j : goal.invariant-loop-j
invariant-loop-j l = l.out ≡ written (l.j * l.rows) (in_columns l.rows (λ k r. direction_of l.wide (get_or l.values k nan) (plane_at l.work (l.side * l.rows) (get_or (places_in l.order) k 0 * l.rows + r)))) l.initial.out
