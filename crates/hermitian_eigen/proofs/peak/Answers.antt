use mathlib.Core.Path.{◌∙◌}
use Rattle.complex.proofs.Loops.{stop}
use Rattle.hermitian_eigen.specs.Shifted.{peak_to}
use Rattle.hermitian_eigen.proofs.ShiftedLaws.{peak-none, peak-more}
use borrow.Author.Rules.{rules}
use Rattle.hermitian_eigen.proofs.peak.Goals as goal

pub loop-i-init : goal.loop-i-init
loop-i-init c = (search rules, peak-none _)

pub loop-i-preserved : goal.loop-i-preserved
loop-i-preserved c = (search rules, c.larger_of-most.ensures ∙ peak-more _ _ c.loop-i.invariant.1 c.read_cell-z.ensures c.modulus.ensures)

pub returns : goal.returns
returns c = stop (peak_to c.args.matrix.now) c.loop-i.invariant.1 (search rules) (search rules)
