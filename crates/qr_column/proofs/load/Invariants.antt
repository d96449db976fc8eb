-- `qr_column::load` meets its contract. The loop's invariant: the first t cells of v are written. Assumes nothing.
use Prim.Native.Nat.{◌-◌}
use Rattle.qr_column.specs.Columns.{cell_from}
use Rattle.qr_column.proofs.WovenLaws.{Filled}
use Rattle.qr_column.proofs.load.Given as goal

abbrev pub invariant-loop-t : goal.invariant-loop-t
invariant-loop-t l = Filled (cell_from l.a l.o) l.rows l.initial.v l.v l.t

abbrev pub decreases-loop-t : goal.decreases-loop-t
decreases-loop-t l = l.rows - l.t
