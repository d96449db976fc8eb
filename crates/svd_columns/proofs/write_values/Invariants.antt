-- `svd_columns::write_values` meets its contract. The invariant: the first j values are written. Assumes nothing.
use mathlib.Core.Path.{◌≡◌}
use lib.ListN.{get_or}
use lib.Ieee.{nan}
use Rattle.stable_order.specs.Places.{places_in}
use Rattle.tables.specs.Tables.{filled}
use Rattle.svd_columns.proofs.write_values.Given as goal

abbrev pub invariant-loop-j : goal.invariant-loop-j
invariant-loop-j l = l.s ≡ filled l.j (λ k. get_or l.norms (get_or (places_in l.order) k 0) nan) l.initial.s
