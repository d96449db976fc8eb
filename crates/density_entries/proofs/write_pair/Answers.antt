-- `density_entries::write_pair` meets its contract: the two writes are the definition. Assumes nothing.
use mathlib.Core.Path.{◌∙◌, ap}
use mathlib.Core.List.{List}
use lib.Ieee.{Float}
use Prim.Native.Nat.{◌+◌, ◌*◌}
use Rattle.complex.specs.Cells.{set_cell}
use Rattle.density_entries.specs.Pairs.{set_pair}
use Rattle.density_entries.proofs.write_pair.Goals as goal

pub returns : goal.returns
unfolding set_pair
returns c = c.write_cell-2.ensures ∙ ap (λ (x : List Float). set_cell x (c.args.r * c.args.dim + c.args.c + 1) c.args.y) c.write_cell.ensures
