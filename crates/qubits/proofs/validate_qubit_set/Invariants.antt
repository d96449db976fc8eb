-- `qubits::validate_qubit_set` meets its contract. The loop's invariant: the answer is that of the places that are left.
-- Assumes nothing.
use mathlib.Core.Path.{◌≡◌}
use lib.Dec.{eqb}
use lib.ListN.{length, drop}
use Rattle.answers.specs.Paper.{done, refuse, and_then}
use Rattle.qubits.specs.Lists.{places_from, qubit_set}
use Rattle.qubits.proofs.validate_qubit_set.Given as goal

abbrev pub invariant-loop-i : goal.invariant-loop-i
invariant-loop-i l =
    qubit_set l.n l.list ≡ and_then (places_from l.n l.list l.i (drop l.i l.list)) (refuse (eqb (length l.list) 0) (4, 0) done)
