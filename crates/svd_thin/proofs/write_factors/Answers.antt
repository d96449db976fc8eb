-- `svd_thin::write_factors` meets its contract: V is read before its cells are written over. Assumes nothing.
use mathlib.Core.Path.{sym}
use native.Mathlib.Omega.{arith}
use lib.Seq.{length-take-le}
use Rattle.svd_thin.proofs.ThinLaws.{square-fits}
use borrow.Author.Rules.{rules}
use Rattle.svd_thin.proofs.write_factors.Goals as goal

pub slice_bounds-write_v-end : goal.slice_bounds-write_v-end
slice_bounds-write_v-end c = omega (arith, square-fits c.args.rows c.args.side c.requires.0.tall, c.requires.0.main-is)

pub slice_bounds-write_v-end-2 : goal.slice_bounds-write_v-end-2
slice_bounds-write_v-end-2 c = sym (length-take-le _ _ (omega (arith, square-fits c.args.rows c.args.side c.requires.0.tall, c.requires.0.main-is)))

pub write_v-requires : goal.write_v-requires
write_v-requires c = (omega (arith, square-fits c.args.rows c.args.side c.requires.0.tall, c.requires.0.cells), search rules, length-take-le _ _ (omega (arith, square-fits c.args.rows c.args.side c.requires.0.tall, c.requires.0.main-is)), search rules, c.requires.1, search rules)

pub write_directions-requires : goal.write_directions-requires
write_directions-requires c = (search rules, search rules, search rules, search rules, search rules, c.requires.1, search rules)

pub returns : goal.returns
returns c = (c.write_directions.ensures, c.write_v.ensures)
