-- `lot_tallies::empty` meets its contract. Assumes nothing.
use mathlib.Core.Path.{sym}
use Rattle.lot_tallies.proofs.SheetLaws.{sheet-none}
use Rattle.lot_tallies.proofs.empty.Goals as goal

pub returns : goal.returns
returns c = sym sheet-none
