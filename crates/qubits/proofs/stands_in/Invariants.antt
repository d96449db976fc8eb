-- `qubits::stands_in` meets its contract. The loop's invariant: q stands in the list if it stands in what is left of it.
-- Assumes nothing.
use mathlib.Core.Path.{◌≡◌}
use lib.ListN.{drop}
use Rattle.qubits.specs.Lists.{stands}
use Rattle.qubits.proofs.stands_in.Given as goal

abbrev pub invariant-loop-x : goal.invariant-loop-x
invariant-loop-x l = stands l.q l.list ≡ stands l.q (drop l.x-index l.list)
