use mathlib.Core.Path.{refl}
use Prim.Native.Nat.{◌<◌, ◌^◌}
use native.Mathlib.Omega.{arith}
use Rattle.chain_start.proofs.StartLaws.{below, power-few, state-few, from_is, from-inside, cell-inside, block_more}
use Rattle.chain_start.proofs.lay_block.Goals as goal

pub bounds-backs-x : goal.bounds-backs-x
bounds-backs-x c = omega (arith, power-few _ c.requires.low-few)

pub overflow_add-backs : goal.overflow_add-backs
overflow_add-backs c = omega (arith, from-inside _ _ _ c.args.state.now c.args.backs.now c.requires _ _ _ (below c.loop-x-test.true c.bit-count.ensures) refl c.other_way-from.ensures, state-few _ _ c.requires.low-few c.requires.high-few)

pub read_cell-z-requires : goal.read_cell-z-requires
read_cell-z-requires c = from-inside _ _ _ c.args.state.now c.args.backs.now c.requires _ _ _ (below c.loop-x-test.true c.bit-count.ensures) refl c.other_way-from.ensures

pub write_cell-requires : goal.write_cell-requires
write_cell-requires c = omega (arith, cell-inside _ _ _ _ c.bit-count.ensures c.requires.inside (below c.loop-x-test.true c.bit-count.ensures))

pub loop-x-preserved : goal.loop-x-preserved
loop-x-preserved c =
    let h : c.loop-x.x < 2 ^ c.args.low = below c.loop-x-test.true c.bit-count.ensures in
    λ old l e. block_more c.args.state.now _ _ _ _ _ old c.bit-count.ensures l c.requires.inside h (c.loop-x.invariant old l e)
    (from_is _ _ _ c.args.state.now c.args.backs.now c.requires _ _ _ h refl c.other_way-from.ensures) c.read_cell-z.ensures c.write_cell.ensures
