use mathlib.Core.Path.{ap, ◌∙◌}
use native.Mathlib.Omega.{arith}
use lib.ListN.{get_or}
use lib.Ieee.{nan}
use Rattle.complex.proofs.Loops.{stop}
use Rattle.stable_order.specs.Places.{places_in}
use Rattle.tables.specs.Tables.{filled}
use Rattle.tables.proofs.TablesLaws.{filled_none, filled-all}
use Rattle.svd_columns.specs.Columns.{sorted_of}
use Rattle.svd_columns.proofs.Grids.{filled-step}
use borrow.Author.Rules.{rules}
use Rattle.svd_columns.proofs.write_values.Goals as goal

pub loop-j-init : goal.loop-j-init
loop-j-init c = filled_none _ _

pub read_place-o-requires : goal.read_place-o-requires
read_place-o-requires c = (search rules, search rules, c.requires.3)

pub loop-j-preserved : goal.loop-j-preserved
loop-j-preserved c = filled-step _ _ _ (omega (arith, c.requires.4, c.loop-j-test.true)) c.loop-j.invariant (ap (λ o. get_or c.args.norms.now o nan) c.read_place-o.ensures.0)

pub returns : goal.returns
unfolding sorted_of
returns c = let a = c.args in stop (λ k. filled k (λ i. get_or a.norms.now (get_or (places_in a.order.now) i 0) nan) a.s.now) c.loop-j.invariant (search rules) (search rules) ∙ filled-all _ _ _ c.requires.4
