use Rattle.density_block.proofs.FactorLaws.{all_end}
use Rattle.density_block.proofs.multiply_rows.Goals as goal

pub returns : goal.returns
returns c = all_end c.args.rho.now c.args.dim c.args.positions.now c.args.factor.now c.args.side _ _ c.requires.matrix c.loop-t.invariant c.loop-t-test.false
