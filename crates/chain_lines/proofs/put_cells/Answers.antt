use native.Mathlib.Omega.{arith}
use Rattle.chain_lines.proofs.ChainLineLaws.{length-cells, cells-none, cells-step}
use Rattle.chain_lines.proofs.put_cells.Goals as goal

pub loop-k-init : goal.loop-k-init
loop-k-init c = cells-none _ _ _ _

pub put_cell-next-requires : goal.put_cell-next-requires
put_cell-next-requires c = omega (arith, length-cells c.args.sites.now c.args.from c.loop-k.k, c.requires.1)

pub loop-k-preserved : goal.loop-k-preserved
loop-k-preserved c = cells-step _ _ _ _ _ c.requires.1 _ _ _ _ _ _ _ _ c.loop-k-test.true c.read_cell-z.ensures c.bits_of-re.ensures c.bits_of-im.ensures c.loop-k.invariant c.put_cell-next.ensures
