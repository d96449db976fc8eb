-- `density_block::multiply_block_factor` meets its contract: refused, or each row multiplied. Assumes nothing.
use Rattle.answers.proofs.Stopped.{was-done}
use Rattle.density_block.proofs.AnswerLaws.{accepted-factor}
use Rattle.density_block.proofs.multiply_block_factor.Goals as goal

pub multiply_rows-requires : goal.multiply_rows-requires
multiply_rows-requires c = accepted-factor _ _ _ _ _ (was-done _ _ c.block_answer.ensures c.in_ok-block_answer.was)
