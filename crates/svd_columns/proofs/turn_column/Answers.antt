use mathlib.Core.Path.{ap, ◌∙◌}
use native.Mathlib.Omega.{arith}
use Rattle.complex.proofs.CellLaws.{written_none}
use Rattle.svd_columns.specs.Columns.{v_cell}
use Rattle.svd_columns.proofs.Grids.{written_step}
use Rattle.svd_columns.proofs.turn_column.Goals as goal

pub loop-r-init : goal.loop-r-init
loop-r-init c = written_none _ _

pub loop-r-preserved : goal.loop-r-preserved
loop-r-preserved c = written_step _ _ _ (omega (arith, c.requires.2, c.loop-r-test.true)) c.loop-r.invariant (c.turn.ensures ∙ ap (v_cell c.args.wide) c.read_plane-z.ensures) c.write_cell.ensures
