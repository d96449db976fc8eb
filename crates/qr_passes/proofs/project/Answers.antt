-- `qr_passes::project` meets its contract: the dot product, the subtraction and the sum in r are the callees'. Assumes nothing.
use Rattle.qr_passes.proofs.GramSchmidtLaws.{project-made}
use Rattle.qr_passes.proofs.project.Goals as goal

pub returns : goal.returns
returns c = project-made _ _ _ _ _ _ c.dot-d.ensures c.subtract.ensures c.read_cell.ensures c.add-total.ensures c.write_cell.ensures
