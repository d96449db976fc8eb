-- `qr_column::Sums::add_first` meets its contract: the first sum is the callee's. Assumes nothing.
use Rattle.qr_column.proofs.DotPartsLaws.{first_made}
use Rattle.qr_column.proofs.Sums.add_first.Goals as goal

pub returns : goal.returns
returns c = first_made _ _ c.add.ensures
