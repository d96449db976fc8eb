-- `plain_sweeps::exactly` meets its contract: the sweeps of the front of scratch. Assumes nothing.
use mathlib.Core.Path.{sym, ◌∙◌}
use native.Mathlib.Omega.{arith}
use lib.Seq.{length-take-le}
use Rattle.plain_sweeps.proofs.TrialLaws.{swept-exactly}
use Rattle.plain_sweeps.proofs.exactly.Goals as goal

pub slice_bounds-from_unit-end-2 : goal.slice_bounds-from_unit-end-2
slice_bounds-from_unit-end-2 c = sym (length-take-le _ _ (omega (arith, c.requires.scratch-fits)))

pub from_unit-requires : goal.from_unit-requires
from_unit-requires c = record { work = length-take-le _ _ (omega (arith, c.requires.scratch-fits)); v = c.requires.v-is; columns = c.requires.columns; cells = c.requires.cells }

pub returns : goal.returns
returns c = swept-exactly _ _ _ _ _ _ (c.from_unit.auto.work ∙ length-take-le _ _ (omega (arith, c.requires.scratch-fits))) c.from_unit.ensures
