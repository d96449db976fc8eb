-- `qubit_offsets::traced_base` meets its contract. Assumes nothing.
use Rattle.answers.proofs.Stopped.{was-done}
use Rattle.qubits.proofs.NamedLaws.{is-listed}
use Rattle.qubit_offsets.proofs.traced_base.Goals as goal

pub traced_base_of-requires-clause-listed : goal.traced_base_of-requires-clause-listed
traced_base_of-requires-clause-listed c = is-listed _ _ (was-done _ _ c.validate_qubit_set.ensures c.in_ok-validate_qubit_set.was)
