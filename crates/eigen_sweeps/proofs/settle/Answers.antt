use mathlib.Core.Path.{refl, ◌∙◌}
use native.Mathlib.Omega.{arith}
use Rattle.sweeps.proofs.Counts.{sweep-after, pairs-few}
use Rattle.sweeps.proofs.SweepingLaws.{sweeps-done, sweeps-more, sweeps-quiet}
use Rattle.eigen_sweeps.proofs.SweepingLaws.{settled-start}
use Rattle.eigen_sweeps.proofs.settle.Goals as goal

pub loop-k-init : goal.loop-k-init
loop-k-init c = (omega arith, refl, omega arith, omega arith, settled-start _ _)

pub sweep-s-requires : goal.sweep-s-requires
sweep-s-requires c = (record { cells = c.loop-k.invariant.1 ∙ c.requires.cells; rows = c.requires.rows }, omega (arith, c.loop-k.invariant.2, c.loop-k-test.true), omega (arith, c.loop-k.invariant.3, c.loop-k-test.true))

pub overflow_step-k : goal.overflow_step-k
overflow_step-k c = omega (arith, c.loop-k-test.true)

pub loop-k-smaller : goal.loop-k-smaller
loop-k-smaller c = omega (arith, c.loop-k-test.true)

pub loop-k-preserved : goal.loop-k-preserved
loop-k-preserved c = let l = c.loop-k.invariant in let e = c.sweep-s.ensures in let w = sweep-after _ _ _ e in (omega (arith, c.loop-k-test.true), c.sweep-s.auto.xs ∙ l.1, omega (arith, l.2, w.begun), omega (arith, l.3, w.turned, pairs-few _ c.args.n c.requires.rows, c.requires.rows), sweeps-more _ _ 60 _ _ c.loop-k-test.true l.4 e c.if-s.false)

pub returns-after-loop-k : goal.returns-after-loop-k
returns-after-loop-k c = sweeps-done _ _ 60 _ c.loop-k-test.false c.loop-k.invariant.4

pub returns-then-s : goal.returns-then-s
returns-then-s c = sweeps-quiet _ _ 60 _ _ c.loop-k-test.true c.loop-k.invariant.4 c.sweep-s.ensures c.if-s.true
