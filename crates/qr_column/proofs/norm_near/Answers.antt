-- `qr_column::norm_near` meets its contract: the sum and its root are the callees', and the guess says nothing. Assumes nothing.
use Rattle.qr_column.proofs.ColumnLaws.{norm-made}
use Rattle.qr_column.proofs.norm_near.Goals as goal

pub returns : goal.returns
returns c = norm-made _ _ c.square-total.ensures c.root_near.ensures
