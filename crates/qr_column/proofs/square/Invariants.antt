-- `qr_column::square` meets its contract. The loop's invariant: the total is that of the first t rows. Assumes nothing.
use mathlib.Core.Path.{◌≡◌}
use Prim.Native.Nat.{◌-◌, ◌≤◌}
use Rattle.complex.specs.Cells.{cell_at}
use Rattle.complex.specs.Squares.{squares_to}
use Rattle.qr_column.specs.Woven.{woven}
use Rattle.qr_column.proofs.square.Given as goal

abbrev pub invariant-loop-t : goal.invariant-loop-t
invariant-loop-t l = (l.t ≤ l.rows) × (l.total ≡ squares_to (cell_at (woven l.rows l.v)) l.t)

abbrev pub decreases-loop-t : goal.decreases-loop-t
decreases-loop-t l = l.rows - l.t
