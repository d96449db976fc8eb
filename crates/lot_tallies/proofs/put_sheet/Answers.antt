-- `lot_tallies::put_sheet` meets its contract. Assumes nothing.
use Rattle.lot_tallies.proofs.PartLaws.{all-parts}
use Rattle.lot_tallies.proofs.put_sheet.Goals as goal

pub returns : goal.returns
returns c = all-parts _ _ _ _ _ c.requires.2 c.requires.0 c.requires.1 c.put_part.ensures c.put_part-2.ensures c.put_part-3.ensures
