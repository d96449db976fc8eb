-- `chain_load::load_column` meets its contract: the first r cells of the column are those of the carried rows. Assumes nothing.
use mathlib.Core.Path.{◌≡◌}
use Prim.Native.Nat.{◌*◌}
use Rattle.svd_load.specs.Loading.{planes_to}
use Rattle.chain_load.specs.Carried.{across_at}
use Rattle.chain_load.proofs.load_column.Given as goal

abbrev pub invariant-loop-r : goal.invariant-loop-r
invariant-loop-r l = l.work ≡ planes_to (l.columns * l.rows) (across_at l.carried l.columns l.rows) (l.col * l.rows) l.r l.initial.work
