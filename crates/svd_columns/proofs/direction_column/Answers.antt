use mathlib.Core.Path.{ap, ◌∙◌}
use native.Mathlib.Omega.{arith}
use Rattle.complex.proofs.CellLaws.{written_none}
use Rattle.svd_columns.specs.Columns.{direction_of}
use Rattle.svd_columns.proofs.Grids.{written_step}
use Rattle.svd_columns.proofs.direction_column.Goals as goal

pub loop-r-init : goal.loop-r-init
loop-r-init c = written_none _ _

pub loop-r-preserved : goal.loop-r-preserved
loop-r-preserved c = written_step _ _ _ (omega (arith, c.requires.2, c.loop-r-test.true)) c.loop-r.invariant (c.direction.ensures ∙ ap (direction_of c.args.wide c.args.norm) c.read_plane-z.ensures) c.write_cell.ensures
