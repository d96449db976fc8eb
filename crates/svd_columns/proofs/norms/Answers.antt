use mathlib.Core.Path.{ap, ◌∙◌}
use Prim.Native.Nat.{◌*◌}
use native.Mathlib.Omega.{arith}
use Rattle.numbers.specs.Root.{sqrt_of}
use Rattle.complex.proofs.Loops.{stop}
use Rattle.tables.specs.Tables.{filled}
use Rattle.whole_numbers.proofs.WholeLaws.{column_fits}
use Rattle.tables.proofs.TablesLaws.{filled_none, filled-all}
use Rattle.complex.specs.Squares.{squares_to}
use Rattle.svd_columns.specs.Columns.{plane_from, norms_of}
use Rattle.svd_columns.proofs.Grids.{filled-step}
use borrow.Author.Rules.{rules}
use Rattle.svd_columns.proofs.norms.Goals as goal

pub loop-j-init : goal.loop-j-init
loop-j-init c = filled_none _ _

pub overflow_mul-j : goal.overflow_mul-j
overflow_mul-j c = omega (arith, column_fits c.loop-j.j c.args.side c.args.rows c.loop-j-test.true)

pub squares-requires : goal.squares-requires
squares-requires c = (column_fits c.loop-j.j c.args.side c.args.rows c.loop-j-test.true, search rules)

pub loop-j-preserved : goal.loop-j-preserved
loop-j-preserved c = filled-step _ _ _ (omega (arith, c.requires.2, c.loop-j-test.true)) c.loop-j.invariant (c.root_of.ensures ∙ ap sqrt_of c.squares.ensures)

pub returns : goal.returns
unfolding norms_of
returns c = let a = c.args in stop (λ k. filled k (λ i. sqrt_of (squares_to (plane_from a.work.now (a.side * a.rows) (i * a.rows)) a.rows)) a.s.now) c.loop-j.invariant (search rules) (search rules) ∙ filled-all _ _ _ c.requires.2
