use mathlib.Core.Path.{◌∙◌, ap}
use mathlib.Core.List.{List}
use lib.Ieee.{Float}
use Prim.Native.Nat.{◌+◌, ◌*◌}
use native.Mathlib.Omega.{arith}
use Rattle.density_entries.specs.declared.Block.{Block}
use Rattle.density_entries.specs.Blocks.{block_sums}
use Rattle.density_entries.specs.Pairs.{set_pair}
use Rattle.density_diagonal.proofs.LeftRowsLaws.{left_step}
use Rattle.density_diagonal.proofs.fill_left.Goals as goal

pub loop-u-preserved : goal.loop-u-preserved
unfolding block_sums
loop-u-preserved c =
    let k = c.block_sums-block.result in
    let e = c.block_sums-block.ensures in
    left_step _ _ _ _ _ _ _ _ k (record { small = c.requires.square.0.small; room = omega (arith, c.requires.square.0.room, c.loop-u.invariant.long) }) c.requires.square.1 c.loop-u.invariant c.loop-u-test.true
    (ap (λ (b : Block). b.first) e) (ap (λ (b : Block). b.second) e) (ap (λ (b : Block). b.third) e) (ap (λ (b : Block). b.fourth) e)
    (c.write_pair-in-loop-u.ensures ∙ ap (λ (x : List Float). set_pair x c.args.dim (2 * c.args.t + 1) (2 * c.loop-u.u) k.third k.fourth) c.write_pair.ensures)
    c.write_across.ensures
