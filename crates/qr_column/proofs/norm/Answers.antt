-- `qr_column::norm` meets its contract: the sum and its root are the callees'. Assumes nothing.
use Rattle.qr_column.proofs.ColumnLaws.{norm-made}
use Rattle.qr_column.proofs.norm.Goals as goal

pub returns : goal.returns
returns c = norm-made _ _ c.square.ensures c.root_of.ensures
