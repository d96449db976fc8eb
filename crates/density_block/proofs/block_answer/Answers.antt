-- `density_block::block_answer` meets its contract. Assumes nothing.
use lib.ListN.{length}
use Rattle.answers.proofs.Stopped.{was-done}
use Rattle.densities.proofs.DensityLaws.{side-small}
use Rattle.density_block.proofs.AnswerLaws.{accepted-sizes}
use Rattle.density_block.proofs.block_answer.Goals as goal

pub block_lengths-requires : goal.block_lengths-requires
block_lengths-requires c =
    let q = accepted-sizes c.args.dim c.args.positions.now c.args.side (was-done _ _ c.block_sizes.ensures c.in_ok-block_sizes.was) in
    (q.1, rw q.2 (side-small (length c.args.positions.now) q.0))
