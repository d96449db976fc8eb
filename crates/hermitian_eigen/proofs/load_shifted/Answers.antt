use mathlib.Core.Path.{refl, ◌∙◌}
use Prim.Native.Nat.{◌*◌}
use native.Mathlib.Nat.{zero-mul}
use Rattle.complex.proofs.Loops.{stop}
use Rattle.svd_load.specs.Loading.{planes_to}
use Rattle.svd_load.proofs.LoadingLaws.{planes-none, planes-column, planes-all}
use Rattle.hermitian_eigen.specs.Shifted.{shifted_at}
use borrow.Author.Rules.{rules}
use Rattle.hermitian_eigen.proofs.load_shifted.Goals as goal

pub loop-col-init : goal.loop-col-init
loop-col-init c = (search rules, refl, rw zero-mul (planes-none _ _ _ _))

pub load_column-requires : goal.load_column-requires
load_column-requires c = (search rules, search rules, search rules, search rules)

pub loop-col-preserved : goal.loop-col-preserved
loop-col-preserved c = (search rules, search rules, planes-column _ _ _ _ _ c.loop-col.invariant.2 c.load_column.ensures)

pub returns : goal.returns
returns c = let a = c.args in stop (λ k. planes_to (a.dim * a.dim) (shifted_at a.shift a.matrix.now a.dim) 0 (k * a.dim) a.work.now) c.loop-col.invariant.2 (search rules) (search rules) ∙ planes-all _ _ _ c.requires.2
