use mathlib.Core.Path.{◌≡◌, ◌∙◌}
use native.Mathlib.Omega.{arith}
use Rattle.chain_load.proofs.CarriedLaws.{conjugated-is}
use Rattle.svd_load.proofs.LoadingLaws.{planes-none, planes-next, planes-all}
use Rattle.chain_load.proofs.load_rows.Goals as goal

pub loop-i-init : goal.loop-i-init
loop-i-init c = planes-none _ _ _ _

pub loop-i-preserved : goal.loop-i-preserved
loop-i-preserved c = planes-next _ _ _ _ c.loop-i.invariant (conjugated-is _ _ c.read_cell-z.ensures c.conj.ensures) c.write_plane.ensures

pub returns : goal.returns
returns c = let e : c.loop-i.i ≡ c.args.c = omega arith in (rw e at c.loop-i.invariant) ∙ planes-all _ _ _ c.requires.1
