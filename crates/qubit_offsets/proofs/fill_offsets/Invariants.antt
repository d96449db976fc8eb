-- `qubit_offsets::fill_offsets` meets its contract. The loop's invariant: the offsets of the t passed stand at the front.
-- Assumes nothing.
use mathlib.Core.Path.{◌≡◌}
use Rattle.tables.specs.Tables.{filled}
use Rattle.qubits.specs.Spread.{row_offset}
use Rattle.qubit_offsets.proofs.fill_offsets.Given as goal

abbrev pub invariant-loop-t : goal.invariant-loop-t
invariant-loop-t l = l.out ≡ filled l.t (row_offset l.list) l.initial.out
