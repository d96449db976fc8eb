-- `qubits::row_offset` meets its contract. The loop's invariant: the offset with what is left of the list and of t added is t's.
-- Assumes nothing.
use mathlib.Core.Path.{◌≡◌}
use Prim.Native.Nat.{◌^◌, ◌/◌}
use lib.ListN.{drop}
use lib.Bits.{bit_or}
use Rattle.qubits.specs.Spread.{row_offset, spread}
use Rattle.qubits.proofs.row_offset.Given as goal

abbrev pub invariant-loop-i : goal.invariant-loop-i
invariant-loop-i l = row_offset l.list l.t ≡ bit_or l.offset (spread (drop l.i l.list) (l.t / 2 ^ l.i))
