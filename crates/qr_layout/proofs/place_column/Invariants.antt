-- `qr_layout::place_column` meets its contract. The loop's invariant: the first t cells are placed. Assumes nothing.
use Prim.Native.Nat.{◌-◌, ◌≤◌}
use mathlib.Core.Path.{◌≡◌}
use lib.ListN.{length}
use Rattle.qr_column.specs.Woven.{woven}
use Rattle.qr_layout.specs.Laying.{placed_into}
use Rattle.qr_layout.proofs.place_column.Given as goal

abbrev pub invariant-loop-t : goal.invariant-loop-t
invariant-loop-t l = (l.t ≤ l.rows) × (length l.q ≡ length l.initial.q) × (l.q ≡ placed_into (woven l.rows l.v) l.initial.q l.o l.t)

abbrev pub decreases-loop-t : goal.decreases-loop-t
decreases-loop-t l = l.rows - l.t
