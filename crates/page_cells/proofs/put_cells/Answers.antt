use native.Mathlib.Omega.{arith}
use Rattle.page_cells.proofs.PageCellLaws.{square-small, length-cells, cells-none, cells-step}
use Rattle.page_cells.proofs.put_cells.Goals as goal

pub overflow_mul-k-end : goal.overflow_mul-k-end
overflow_mul-k-end c = omega (arith, square-small c.args.dim c.requires.small)

pub loop-k-init : goal.loop-k-init
loop-k-init c = cells-none _ _ _ _ _

pub read_cell-z-requires : goal.read_cell-z-requires
read_cell-z-requires c = omega (arith, c.requires.cells)

pub put_cell-next-requires : goal.put_cell-next-requires
put_cell-next-requires c = omega (arith, length-cells c.args.word.now c.args.dim c.args.cells.now c.requires.short c.requires.some c.requires.small c.loop-k.k (omega arith), c.requires.fits, c.requires.short)

pub loop-k-preserved : goal.loop-k-preserved
loop-k-preserved c = cells-step _ _ _ _ _ c.requires _ _ _ _ _ _ _ _ c.loop-k-test.true c.read_cell-z.ensures c.bits_of-re.ensures c.bits_of-im.ensures c.loop-k.invariant c.put_cell-next.ensures
