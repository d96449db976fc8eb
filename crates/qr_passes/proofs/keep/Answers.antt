-- `qr_passes::keep` meets its contract: each slice is what its callee makes of it. Assumes nothing.
use Rattle.qr_passes.specs.GramSchmidt.{new_basis}
use Rattle.qr_passes.proofs.keep.Goals as goal

pub returns : goal.returns
unfolding new_basis
returns c = record { basis = c.store_scaled.ensures; entry = c.write_cell.ensures }
