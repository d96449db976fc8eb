-- `hermitian_eigen::write_vectors` meets its contract: the two parts of scratch are what its callee takes. Assumes nothing.
use mathlib.Core.Path.{sym}
use Prim.Native.Nat.{◌*◌}
use native.Mathlib.Omega.{arith}
use lib.Seq.{length-take-le}
use Rattle.svd_thin.proofs.ThinLaws.{part_length}
use borrow.Author.Rules.{rules}
use Rattle.hermitian_eigen.proofs.write_vectors.Goals as goal

pub slice_bounds-write_directions-end : goal.slice_bounds-write_directions-end
slice_bounds-write_directions-end c = sym (length-take-le _ _ (omega (arith, c.requires.0.scratch-is)))

pub write_directions-requires : goal.write_directions-requires
write_directions-requires c = (c.requires.0.cells, search rules, length-take-le _ _ (omega (arith, c.requires.0.scratch-is)), c.requires.0.s-is, part_length (2 * (c.args.dim * c.args.dim)) c.args.dim c.args.scratch.now (omega (arith, c.requires.0.scratch-is)), c.requires.1, c.requires.0.other-is)

pub returns : goal.returns
returns c = c.write_directions.ensures
