use mathlib.Core.Path.{◌∙◌}
use Rattle.complex.proofs.Loops.{stop}
use Rattle.complex.specs.Cells.{cell_at}
use Rattle.svd_load.specs.Loading.{planes_to}
use Rattle.svd_load.proofs.LoadingLaws.{planes-none, planes-next, planes-all}
use borrow.Author.Rules.{rules}
use Rattle.svd_load.proofs.load_tall.Goals as goal

pub loop-i-init : goal.loop-i-init
loop-i-init c = planes-none _ _ _ _

pub loop-i-preserved : goal.loop-i-preserved
loop-i-preserved c = planes-next _ _ _ _ c.loop-i.invariant c.read_cell.ensures c.write_plane.ensures

pub returns : goal.returns
returns c = stop (λ k. planes_to c.args.c (cell_at c.args.a.now) 0 k c.args.work.now) c.loop-i.invariant (search rules) (search rules) ∙ planes-all _ _ _ c.requires.1
