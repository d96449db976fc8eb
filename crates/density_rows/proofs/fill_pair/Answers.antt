-- `density_rows::fill_pair` meets its contract: the sums of both rows, and each row written. Assumes nothing.
use mathlib.Core.Path.{refl}
use Rattle.density_rows.proofs.RowSumsLaws.{zero-sums, pair-written}
use Rattle.density_rows.proofs.fill_pair.Goals as goal

pub pair_sums-requires-clause-planes_len : goal.pair_sums-requires-clause-planes_len
pair_sums-requires-clause-planes_len c = (c.requires.planes_len.0, c.requires.planes_len.1, zero-sums _ refl)

pub returns : goal.returns
returns c = pair-written _ _ _ _ _ _ _ _ c.requires.square.1 c.pair_sums.ensures c.write_row.ensures c.write_row-2.ensures
