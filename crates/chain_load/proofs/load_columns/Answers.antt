use mathlib.Core.Path.{◌≡◌, ◌∙◌}
use native.Mathlib.Nat.{zero-mul}
use native.Mathlib.Omega.{arith}
use Rattle.svd_load.proofs.LoadingLaws.{planes-none, planes-column, planes-all}
use Rattle.chain_load.proofs.load_columns.Goals as goal

pub loop-col-init : goal.loop-col-init
loop-col-init c = rw zero-mul (planes-none _ _ _ _)

pub loop-col-preserved : goal.loop-col-preserved
loop-col-preserved c = planes-column _ _ _ _ _ c.loop-col.invariant c.load_column.ensures

pub returns : goal.returns
returns c = let e : c.loop-col.col ≡ c.args.columns = omega arith in (rw e at c.loop-col.invariant) ∙ planes-all _ _ _ c.requires.2
