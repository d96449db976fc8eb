-- `qr_basis::write_cell` meets its contract: the two numbers that are set are the cell of the matrix. Assumes nothing.
use native.Mathlib.Omega.{arith}
use Prim.Native.Nat.{◌+◌, ◌*◌}
use lib.ListN.{length-set}
use Rattle.qr_basis.proofs.MatrixLaws.{write-matrix}
use Rattle.qr_basis.proofs.write_cell.Goals as goal

pub bounds-q-next : goal.bounds-q-next
bounds-q-next c = omega (arith, length-set c.args.q.now (2 * (c.args.i * c.args.rows) + c.args.t) c.args.z.re, c.requires)

pub returns : goal.returns
returns c = write-matrix _ _ _ _ _ c.requires.0 c.requires.1
