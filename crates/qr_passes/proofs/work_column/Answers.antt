-- `qr_passes::work_column` meets its contract: the column, its norm and its passes are the callees'. Assumes nothing.
use Rattle.qr_passes.proofs.GramSchmidtLaws.{column-worked}
use borrow.Author.Rules.{rules}
use Rattle.qr_passes.proofs.work_column.Goals as goal

pub residual_of-residual-requires : goal.residual_of-residual-requires
residual_of-residual-requires c = record { rows_in_bounds = search rules; norm_value = c.norm-whole.ensures }

pub returns : goal.returns
returns c = column-worked _ _ _ _ _ _ _ c.load.ensures c.norm-whole.ensures c.residual_of-residual.ensures
