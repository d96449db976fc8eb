use mathlib.Core.Path.{◌≡◌, refl, ◌∙◌}
use native.Mathlib.Omega.{arith}
use Rattle.sweeps.proofs.Counts.{pair-after}
use Rattle.sweeps.proofs.SweepingLaws.{pairs-none, pairs-more}
use Rattle.eigen_sweeps.proofs.row.Goals as goal

pub overflow_step-q : goal.overflow_step-q
overflow_step-q c = omega (arith, c.requires.0.rows)

pub loop-q-init : goal.loop-q-init
loop-q-init c = (omega arith, omega arith, refl, omega arith, refl, pairs-none _ _ _)

pub pair-t-requires : goal.pair-t-requires
pair-t-requires c = (record { cells = c.loop-q.invariant.2 ∙ c.requires.0.cells; rows = c.requires.0.rows }, c.requires.1, c.loop-q-test.true, omega (arith, c.loop-q.invariant.3, c.requires.2, c.requires.0.rows, c.loop-q-test.true))

pub overflow_step-q-in-loop-q : goal.overflow_step-q-in-loop-q
overflow_step-q-in-loop-q c = omega (arith, c.requires.0.rows, c.loop-q-test.true)

pub loop-q-smaller : goal.loop-q-smaller
loop-q-smaller c = omega (arith, c.loop-q-test.true)

pub loop-q-preserved : goal.loop-q-preserved
loop-q-preserved c = let l = c.loop-q.invariant in let e = c.pair-t.ensures in let w = pair-after _ _ _ _ e in (omega (arith, l.0), omega (arith, c.loop-q-test.true), c.pair-t.auto.xs ∙ l.2, omega (arith, l.3, w.turned), w.begun ∙ l.4, pairs-more _ _ _ _ l.0 l.5 e)

pub returns : goal.returns
returns c = let e : c.loop-q.q ≡ c.args.n = omega (arith, c.loop-q.invariant.1, c.loop-q-test.false) in rw e at c.loop-q.invariant.5
