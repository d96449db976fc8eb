use mathlib.Core.Path.{◌≡◌, refl, ap, ◌∙◌}
use native.Mathlib.Omega.{arith}
use Rattle.sweeps.proofs.Counts.{pairs-few, pairs-after, turned_more}
use Rattle.sweeps.proofs.SweepingLaws.{sweep-made, columns-none, columns-more}
use Rattle.eigen_sweeps.specs.Sweeping.{eigen_pairing, eigen_pairings}
use Rattle.eigen_sweeps.proofs.sweep.Goals as goal

pub overflow_add-t : goal.overflow_add-t
overflow_add-t c = omega (arith, c.requires.1)

pub loop-p-init : goal.loop-p-init
loop-p-init c = (omega arith, refl, omega arith, refl, columns-none _ _ _)

pub row-t-requires : goal.row-t-requires
row-t-requires c = (record { cells = c.loop-p.invariant.1 ∙ c.requires.0.cells; rows = c.requires.0.rows }, c.loop-p-test.true, omega (arith, c.loop-p.invariant.2, pairs-few _ c.loop-p.p c.requires.0.rows, c.requires.2, c.requires.0.rows, c.loop-p-test.true))

pub overflow_step-p : goal.overflow_step-p
overflow_step-p c = omega (arith, c.requires.0.rows, c.loop-p-test.true)

pub loop-p-smaller : goal.loop-p-smaller
loop-p-smaller c = omega (arith, c.loop-p-test.true)

pub loop-p-preserved : goal.loop-p-preserved
loop-p-preserved c = let l = c.loop-p.invariant in let e = c.row-t.ensures in let w = pairs-after _ _ _ _ e in (omega (arith, c.loop-p-test.true), c.row-t.auto.xs ∙ l.1, turned_more _ _ _ l.2 w, w.begun ∙ l.3, columns-more _ _ _ _ l.4 e)

pub returns : goal.returns
returns c = let e : c.loop-p.p ≡ c.args.n = omega (arith, c.loop-p.invariant.0, c.loop-p-test.false) in sweep-made (eigen_pairings _) _ _ (ap (eigen_pairing _) c.largest_diagonal-largest.ensures) (rw e at c.loop-p.invariant.4)
