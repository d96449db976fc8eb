use mathlib.Core.Path.{◌≡◌, refl}
use native.Mathlib.Omega.{arith}
use Rattle.eigen_pair.proofs.TurnLaws.{line-none, line-more}
use Rattle.eigen_pair.proofs.turn_rows.Goals as goal

pub loop-k-init : goal.loop-k-init
loop-k-init c = (omega arith, refl, refl, line-none _ _ _ _ _ _)

pub loop-k-preserved : goal.loop-k-preserved
loop-k-preserved c = (omega arith, omega arith, c.loop-k.invariant.2, line-more _ _ _ _ _ _ _ c.loop-k.invariant.3 c.turn_two.ensures)

pub returns : goal.returns
returns c = let e : c.loop-k.k ≡ c.args.n = omega arith in rw e at c.loop-k.invariant.3
