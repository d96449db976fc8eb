-- `qr_column::Sums::joined` meets its contract: each sum is the callee's. Assumes nothing.
use Rattle.qr_column.proofs.DotPartsLaws.{joined_made}
use Rattle.qr_column.proofs.Sums.joined.Goals as goal

pub returns : goal.returns
returns c = joined_made _ c.add.ensures c.add-2.ensures c.add-3.ensures
