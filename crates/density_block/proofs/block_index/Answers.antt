use Prim.Native.Nat.{◌-◌}
use native.Mathlib.Omega.{arith}
use lib.ListN.{length}
use Rattle.density_block.proofs.FactorLaws.{index-end, index-small, index-step}
use Rattle.density_block.proofs.block_index.Goals as goal

pub loop-j-init : goal.loop-j-init
loop-j-init c = (index-end c.args.positions.now (length c.args.positions.now) c.args.t (omega arith), omega arith)

pub loop-j-preserved : goal.loop-j-preserved
loop-j-preserved c =
    let e = index-step c.args.positions.now c.loop-j.j c.args.t c.loop-j.index (omega arith) (omega arith) c.loop-j.invariant.0 in
    (e, rw e (index-small c.args.positions.now (c.loop-j.j - 1) c.args.t c.requires.few))
