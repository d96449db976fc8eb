-- `qr_column::dot_term` meets its contract: the product of what the callees read. Assumes nothing.
use native.Mathlib.Omega.{arith}
use Rattle.qr_column.proofs.WovenLaws.{term-woven}
use Rattle.qr_column.proofs.dot_term.Goals as goal

pub read_plane-requires : goal.read_plane-requires
read_plane-requires c = omega (arith, c.requires)

pub returns : goal.returns
returns c = term-woven _ _ _ _ _ c.requires.1 c.read_cell.ensures c.conj.ensures c.read_plane.ensures c.mul.ensures
