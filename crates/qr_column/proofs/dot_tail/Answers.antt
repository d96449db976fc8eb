use native.Mathlib.Omega.{arith}
use Rattle.complex.proofs.Loops.{stop}
use Rattle.qr_column.specs.Dot.{tail_to}
use Rattle.qr_column.proofs.DotLaws.{tail_to-none, tail_to-more}
use Rattle.qr_column.proofs.dot_tail.Goals as goal

pub loop-k-init : goal.loop-k-init
loop-k-init c = (omega arith, tail_to-none _ _ _ _ _)

pub overflow_step-k : goal.overflow_step-k
overflow_step-k c = omega (arith, c.loop-k-test.true)

pub loop-k-smaller : goal.loop-k-smaller
loop-k-smaller c = omega (arith, c.loop-k-test.true)

pub loop-k-preserved : goal.loop-k-preserved
loop-k-preserved c = (omega (arith, c.loop-k-test.true), tail_to-more _ _ _ _ _ _ c.loop-k.invariant.1 c.dot_term.ensures c.add_first-all.ensures)

pub returns : goal.returns
returns c = stop (tail_to _ _ _ _ _) c.loop-k.invariant.1 c.loop-k.invariant.0 (omega arith)
