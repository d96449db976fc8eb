-- `qubit_offsets::row_offsets` meets its contract. Assumes nothing.
use Rattle.answers.proofs.Stopped.{was-done}
use Rattle.qubit_offsets.proofs.CallLaws.{density-listed}
use Rattle.qubit_offsets.proofs.row_offsets.Goals as goal

pub fill_offsets-requires-clause-listed : goal.fill_offsets-requires-clause-listed
fill_offsets-requires-clause-listed c =
    (density-listed _ _ _ (was-done _ _ c.density_refusal.ensures c.in_ok-density_refusal.was)).0
