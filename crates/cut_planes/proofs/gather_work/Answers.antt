-- `cut_planes::gather_work` meets its contract: a wide cut's masks change places. Assumes nothing.
use mathlib.Core.Path.{◌∙◌}
use Rattle.cut_planes.proofs.CutPlanesLaws.{turned, wide_is, square-is}
use Rattle.cut_planes.proofs.gather_work.Goals as goal

pub fill_planes-requires : goal.fill_planes-requires
fill_planes-requires c = (turned _ _ _ _ _ _ _ c.requires.0 c.if-cut.true, c.requires.1)

pub returns-then-cut : goal.returns-then-cut
returns-then-cut c = c.fill_planes.ensures ∙ wide_is _ _ _ _ _ _ _ c.requires.0 c.if-cut.true

pub fill_planes-requires-else-cut : goal.fill_planes-requires-else-cut
fill_planes-requires-else-cut c = c.requires

pub returns-else-cut : goal.returns-else-cut
returns-else-cut c = c.fill_planes-else-cut.ensures ∙ square-is _ _ _ _ _ _ _ c.requires.0 c.if-cut.false
