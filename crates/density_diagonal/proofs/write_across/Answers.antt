-- `density_diagonal::write_across` meets its contract: the two writes are the definition. Assumes nothing.
use Rattle.density_diagonal.proofs.LeftRowsLaws.{across-written}
use Rattle.density_diagonal.proofs.write_across.Goals as goal

pub returns : goal.returns
returns c = across-written _ _ _ c.args.block _ _ _ c.write_pair.ensures c.write_pair-2.ensures c.new-x.ensures c.new-y.ensures c.new-v.ensures c.new-w.ensures
