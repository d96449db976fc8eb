use mathlib.Core.Path.{refl, ap, ◌∙◌}
use native.Mathlib.Omega.{arith}
use lib.ListN.{get_or}
use lib.Ieee.{nan, binary64, sub}
use Rattle.complex.proofs.Loops.{stop}
use Rattle.tables.specs.Tables.{filled}
use Rattle.tables.proofs.TablesLaws.{filled_none, filled-all}
use Rattle.svd_columns.proofs.Grids.{filled-step}
use Rattle.hermitian_eigen.proofs.StepsLaws.{past-filled}
use Rattle.hermitian_eigen.proofs.lower.Goals as goal

pub loop-x-init : goal.loop-x-init
loop-x-init c = filled_none _ _

pub loop-x-preserved : goal.loop-x-preserved
loop-x-preserved c =
    let l = c.loop-x in
    filled-step _ _ _ (omega (arith, c.loop-x-test.true)) l.invariant (ap (λ x. sub binary64 x c.args.shift) (ap (λ v. get_or v l.x-index nan) l.invariant ∙ past-filled _ _ _))

pub returns : goal.returns
returns c =
    let v = c.args.values.now in
    stop (λ k. filled k (λ i. sub binary64 (get_or v i nan) c.args.shift) v) c.loop-x.invariant (omega arith) (omega arith) ∙ filled-all _ _ _ refl
