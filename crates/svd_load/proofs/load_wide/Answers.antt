use mathlib.Core.Path.{◌∙◌}
use Prim.Native.Nat.{◌*◌}
use native.Mathlib.Nat.{zero-mul}
use Rattle.complex.proofs.Loops.{stop}
use Rattle.svd_load.specs.Loading.{conjugate_transposed, planes_to}
use Rattle.svd_load.proofs.LoadingLaws.{planes-none, planes-column, planes-all}
use borrow.Author.Rules.{rules}
use Rattle.svd_load.proofs.load_wide.Goals as goal

pub loop-col-init : goal.loop-col-init
loop-col-init c = rw zero-mul (planes-none _ _ _ _)

pub loop-col-preserved : goal.loop-col-preserved
loop-col-preserved c = planes-column _ _ _ _ _ c.loop-col.invariant c.load_row.ensures

pub returns : goal.returns
returns c = stop (λ k. planes_to (c.args.m * c.args.n) (conjugate_transposed c.args.a.now c.args.m c.args.n) 0 (k * c.args.n) c.args.work.now) c.loop-col.invariant (search rules) (search rules) ∙ planes-all _ _ _ c.requires.2
