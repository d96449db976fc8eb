-- `density_block::block_sizes` meets its contract: each way out is the first of the tests that holds. Assumes nothing.
use mathlib.Core.Path.{ap, ◌∙◌}
use Prim.Native.Nat.{ℕ}
use native.Mathlib.Omega.{arith}
use Rattle.answers.proofs.Stopped.{was-done}
use Rattle.qubits.specs.Lists.{qubit_set}
use Rattle.density_block.proofs.AnswerLaws.{short-list}
use Rattle.density_block.proofs.block_sizes.Goals as goal

pub bit-requires : goal.bit-requires
bit-requires c =
    let e = c.validate_qubit_set.ensures ∙ ap (λ (w : ℕ). qubit_set w c.args.positions.now) c.width_of.ensures in
    omega (arith, short-list c.args.dim c.args.positions.now c.args.side (was-done _ _ e c.in-Ok.is))
