use native.Mathlib.Omega.{arith}
use Rattle.complex.proofs.Loops.{stop}
use Rattle.complex.specs.Squares.{squares_to}
use Rattle.complex.proofs.SquaresLaws.{squares-none}
use Rattle.qr_column.proofs.WovenLaws.{squares-woven}
use Rattle.qr_column.proofs.square.Goals as goal

pub loop-t-init : goal.loop-t-init
loop-t-init c = (omega arith, squares-none _)

pub overflow_step-t : goal.overflow_step-t
overflow_step-t c = omega (arith, c.loop-t-test.true)

pub loop-t-smaller : goal.loop-t-smaller
loop-t-smaller c = omega (arith, c.loop-t-test.true)

pub loop-t-preserved : goal.loop-t-preserved
loop-t-preserved c = (omega (arith, c.loop-t-test.true), squares-woven _ _ _ c.loop-t-test.true c.loop-t.invariant.1 c.read_plane.ensures c.norm_sqr-total.ensures)

pub returns : goal.returns
returns c = stop (squares_to _) c.loop-t.invariant.1 c.loop-t.invariant.0 c.loop-t-test.false
