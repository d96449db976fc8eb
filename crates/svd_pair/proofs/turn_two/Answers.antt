use mathlib.Core.Bool.{not}
use lib.Dec.{eqb}
use Rattle.svd_pair.specs.Plain.{making}
-- `svd_pair::turn_two` meets its contract: all four cells are read before any is written. Assumes nothing.
use Rattle.svd_pair.proofs.TurnsLaws.{turn-both}
use Rattle.svd_pair.proofs.turn_two.Goals as goal

pub returns : goal.returns
returns g c =
    rw (c.write_two-2.ensures, c.made_q-2.ensures, c.made_q.ensures, c.write_two.ensures, c.made_p-2.ensures, c.made_p.ensures, c.read_plane-bq.ensures, c.read_plane-bp.ensures, c.read_plane-aq.ensures, c.read_plane-ap.ensures)
    (turn-both (making (not (eqb g.row.PLAIN 0))) _ _ _ _ _ c.requires.1 c.requires.2)
