-- `qubits::traced_base_of` meets its contract. The loop's invariant and turns are those of `SpreadLaws`; here they meet the code.
-- Assumes nothing.
use Rattle.qubits.proofs.SpreadLaws.{Inserted}
use Rattle.qubits.proofs.traced_base_of.Given as goal

abbrev pub invariant-loop-q : goal.invariant-loop-q
invariant-loop-q l = Inserted l.n l.list l.e l.base l.q
