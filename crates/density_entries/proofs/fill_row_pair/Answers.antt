use mathlib.Core.Path.{◌∙◌, ap}
use mathlib.Core.List.{List}
use lib.Ieee.{Float}
use Prim.Native.Nat.{◌+◌, ◌*◌}
use native.Mathlib.Omega.{arith}
use Rattle.density_entries.specs.declared.Block.{Block}
use Rattle.density_entries.specs.Blocks.{block_sums}
use Rattle.density_entries.specs.Pairs.{set_pair}
use Rattle.density_entries.proofs.FilledLaws.{pair_step}
use Rattle.density_entries.proofs.fill_row_pair.Goals as goal

pub loop-u-preserved : goal.loop-u-preserved
unfolding block_sums
loop-u-preserved c = let k = c.block_sums-block.result in let e = c.block_sums-block.ensures in pair_step _ _ _ _ _ _ _ k c.requires.square.0 c.requires.square.1 c.loop-u.invariant (omega (arith)) (ap (λ (b : Block). b.first) e) (ap (λ (b : Block). b.second) e) (ap (λ (b : Block). b.third) e) (ap (λ (b : Block). b.fourth) e) (c.write_pair-in-loop-u.ensures ∙ ap (λ (x : List Float). set_pair x c.args.dim (2 * c.args.t + 1) (2 * c.loop-u.u) k.third k.fourth) c.write_pair.ensures)
