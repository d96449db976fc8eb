-- `density_rows::fill_lower` meets its contract: the entries from the planes are those of the state. Assumes nothing.
use Rattle.density_rows.proofs.RowSumsLaws.{lower-from-planes}
use Rattle.density_rows.proofs.fill_lower.Goals as goal

pub returns : goal.returns
returns c =
    lower-from-planes c.args.n c.args.state.now c.args.mask c.args.offsets.now c.args.dim c.args.groups _ _ _ _
    c.gather.ensures c.fill_rows.ensures
