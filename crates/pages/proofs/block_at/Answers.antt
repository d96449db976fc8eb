-- `pages::block_at` meets its contract: the offsets are the table's. Assumes nothing.
use Prim.Native.Nat.{◌*◌}
use Rattle.density_entries.specs.Blocks.{block_sums}
use Rattle.density_entries.proofs.FilledLaws.{ready-reach}
use Rattle.pages.proofs.block_at.Goals as goal

pub block_sums-requires : goal.block_sums-requires
block_sums-requires c = ready-reach _ _ _ _ _ (2 * c.args.t) (2 * c.args.u) c.requires.0 c.requires.2 c.requires.3

pub returns : goal.returns
unfolding block_sums
returns c = c.block_sums.ensures
