-- `qr_basis::read_cell` meets its contract: the two numbers are the cell of the matrix. Assumes nothing.
use Rattle.qr_basis.proofs.MatrixLaws.{read-matrix}
use Rattle.qr_basis.proofs.read_cell.Goals as goal

pub returns : goal.returns
returns c = read-matrix _ _ _ _ c.requires.0 c.requires.1
