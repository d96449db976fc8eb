use native.Mathlib.Omega.{arith}
use mathlib.Core.Path.{◌∙◌, ap}
use Rattle.complex.specs.Arithmetic.{conjugate}
use Rattle.density_entries.proofs.MirroredLaws.{column-step}
use Rattle.density_entries.proofs.mirror_column.Goals as goal

pub loop-u-preserved : goal.loop-u-preserved
loop-u-preserved c = column-step _ _ _ _ _ _ _ c.requires.0 c.requires.1 c.loop-u.invariant (omega arith) (c.conj.ensures ∙ ap conjugate c.read_cell-z.ensures) c.write_cell.ensures
