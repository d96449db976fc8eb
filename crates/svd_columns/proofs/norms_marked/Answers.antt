use mathlib.Core.Path.{ap, ◌∙◌}
use Prim.Native.Nat.{ℕ, ◌*◌}
use native.Mathlib.Omega.{arith}
use lib.Ieee.{Float}
use Rattle.numbers.specs.Root.{sqrt_of}
use Rattle.complex.proofs.Loops.{stop}
use Rattle.exact_roots.specs.Exact.{exact_root, all_exact}
use Rattle.exact_roots.proofs.All.{all_none, all_more}
use Rattle.tables.specs.Tables.{filled}
use Rattle.whole_numbers.proofs.WholeLaws.{column_fits}
use Rattle.tables.proofs.TablesLaws.{filled_none, filled-all}
use Rattle.complex.specs.Squares.{squares_to}
use Rattle.svd_columns.specs.Columns.{plane_from, norms_of, norms_exact}
use Rattle.svd_columns.proofs.Grids.{filled-step}
use borrow.Author.Rules.{rules}
use Rattle.svd_columns.proofs.norms_marked.Goals as goal

pub loop-j-init : goal.loop-j-init
loop-j-init c = record { values = filled_none _ _; mark = all_none _ }

pub overflow_mul-j : goal.overflow_mul-j
overflow_mul-j c = omega (arith, column_fits c.loop-j.j c.args.side c.args.rows c.loop-j-test.true)

pub squares-requires : goal.squares-requires
squares-requires c = (column_fits c.loop-j.j c.args.side c.args.rows c.loop-j-test.true, search rules)

pub loop-j-preserved : goal.loop-j-preserved
loop-j-preserved c =
    let sum = c.squares.ensures in
    record {
      values = filled-step _ _ _ (omega (arith, c.requires.2, c.loop-j-test.true)) c.loop-j.invariant.values (c.sqrt_marked-one.ensures.0 ∙ ap sqrt_of sum);
      mark = all_more _ _ c.loop-j.invariant.mark (c.sqrt_marked-one.ensures.1 ∙ ap exact_root sum);
    }

pub returns : goal.returns
unfolding norms_of norms_exact
returns c =
    let a = c.args in
    let f : ℕ → Float = λ i. squares_to (plane_from a.work.now (a.side * a.rows) (i * a.rows)) a.rows in (
      stop (λ k. filled k (λ i. sqrt_of (f i)) a.s.now) c.loop-j.invariant.values (search rules) (search rules) ∙ filled-all _ _ _ c.requires.2,
      stop (λ k. all_exact k f) c.loop-j.invariant.mark (search rules) (search rules),
    )
