use native.Mathlib.Omega.{arith}
use Rattle.slab_cells.proofs.CellLaws.{put-pasted}
use Rattle.slab_cells.proofs.paste.Goals as goal

pub returns : goal.returns
returns c = put-pasted _ _ _ (omega arith) c.copy_over.ensures
