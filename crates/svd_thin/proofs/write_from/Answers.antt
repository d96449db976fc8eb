-- `svd_thin::write_from` meets its contract: the two parts of scratch are what its callee takes. Assumes nothing.
use mathlib.Core.Path.{sym}
use Prim.Native.Nat.{◌*◌}
use native.Mathlib.Omega.{arith}
use lib.Seq.{length-take-le}
use Rattle.svd_thin.proofs.ThinLaws.{part_length}
use Rattle.svd_thin.proofs.write_from.Goals as goal

pub slice_bounds-write_factors-end : goal.slice_bounds-write_factors-end
slice_bounds-write_factors-end c = sym (length-take-le _ _ (omega (arith, c.requires.0.scratch-is)))

pub write_factors-requires : goal.write_factors-requires
write_factors-requires c = (
  record {
    tall = c.requires.0.tall;
    columns = c.requires.0.columns;
    cells = c.requires.0.cells;
    work-is = length-take-le _ _ (omega (arith, c.requires.0.scratch-is));
    order_is = part_length (2 * (c.args.side * c.args.rows)) c.args.side c.args.scratch.now (omega (arith, c.requires.0.scratch-is));
    s-is = c.requires.0.s-is;
    main-is = c.requires.1;
    other-is = c.requires.0.other-is;
  },
  c.requires.2,
)

pub returns : goal.returns
returns c = c.write_factors.ensures
