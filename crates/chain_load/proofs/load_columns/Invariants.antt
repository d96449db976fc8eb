-- `chain_load::load_columns` meets its contract: the first col columns are there. Assumes nothing.
use mathlib.Core.Path.{◌≡◌}
use Prim.Native.Nat.{◌*◌}
use Rattle.svd_load.specs.Loading.{planes_to}
use Rattle.chain_load.specs.Carried.{across_at}
use Rattle.chain_load.proofs.load_columns.Given as goal

abbrev pub invariant-loop-col : goal.invariant-loop-col
invariant-loop-col l = l.work ≡ planes_to (l.columns * l.rows) (across_at l.carried l.columns l.rows) 0 (l.col * l.rows) l.initial.work
