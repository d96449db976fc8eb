-- `countersign_shifted::cell_of` meets its contract: both numbers stand in the list. Assumes nothing.
use Rattle.countersign_shifted.proofs.ShiftedLaws.{made-cell}
use Rattle.countersign_shifted.proofs.cell_of.Goals as goal

pub returns : goal.returns
returns c = made-cell _ _ c.requires.0 _ c.requires.1 c.from-re.ensures c.from-im.ensures
