-- `svd_thin::factor` meets its contract: its three steps in a row. Assumes nothing.
use mathlib.Core.Path.{sym, ◌∙◌}
use native.Mathlib.Omega.{arith}
use lib.Seq.{length-take-le}
use Rattle.svd_thin.proofs.ThinLaws.{square-fits, ranked-places, thin-made}
use borrow.Author.Rules.{rules}
use Rattle.svd_thin.proofs.factor.Goals as goal

pub slice_bounds-sweep-end : goal.slice_bounds-sweep-end
slice_bounds-sweep-end c = omega (arith, square-fits c.args.rows c.args.side c.requires.0.tall, c.requires.1)

pub slice_bounds-sweep-end-2 : goal.slice_bounds-sweep-end-2
slice_bounds-sweep-end-2 c = sym (length-take-le _ _ (omega (arith, square-fits c.args.rows c.args.side c.requires.0.tall, c.requires.1)))

pub sweep-sweeps-requires : goal.sweep-sweeps-requires
sweep-sweeps-requires c = record { columns = c.requires.0.columns; cells = c.requires.0.cells; scratch-fits = omega (arith, c.requires.0.scratch-is); v-is = length-take-le _ _ (omega (arith, square-fits c.args.rows c.args.side c.requires.0.tall, c.requires.1)) }

pub write_from-requires : goal.write_from-requires
write_from-requires c = (search rules, search rules, ranked-places _ _ _ _ _ c.rank.ensures)

pub returns : goal.returns
returns c =
    thin-made _ _ _ _ _ c.requires.0.columns
    (c.sweep-sweeps.auto.v ∙ length-take-le _ _ (omega (arith, square-fits c.args.rows c.args.side c.requires.0.tall, c.requires.1)))
    c.sweep-sweeps.ensures
    c.rank.ensures
    c.write_from.ensures.0
    c.write_from.ensures.1
